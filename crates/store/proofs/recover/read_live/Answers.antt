use Rattle.std.proofs.Common.{inr, length, sym, subst}
use Rattle.std.proofs.lemmas.Result.{err_from_is_err_and}
use Rattle.gate_log.specs.declared.layout.Area.{Area}
use Rattle.gate_log.specs.declared.layout.Areas.{Areas}
use Rattle.gate_log.specs.Areas.{AreLaidOut, AreOf}
use Rattle.gate_log.specs.Opening.{disk_in_opening}
use Rattle.store.specs.Image.{AreAreas, area_b}
use Rattle.store.proofs.Holding.{laid_out}
use Rattle.store.proofs.recover.read_live.Goals as goal

pub live-requires : goal.live-requires
live-requires g c =
    let size = length (g.D.Disk.state (disk_in_opening c.args.opening.now)).content in
    record {
      layout =
          subst (λ (x : Areas). AreLaidOut x size) (λ i. record { live = sym c.first_area.ensures i; other = sym c.second_area.ensures i })
          (laid_out c.args.superblock.now.slots size c.requires);
    }

pub returns-in_err-version-in-Ok-Some-clause-refused : goal.returns-in_err-version-in-Ok-Some-clause-refused
returns-in_err-version-in-Ok-Some-clause-refused g c honest =
    let slots = c.args.superblock.now.slots in
    let p = err_from_is_err_and c.from_residual.result c.from_residual.ensures.1 in
    let live = c.in-Ok-Some.live in
    let found = rw c.in-Ok-Some.field-0-is at (c.in-Ok-Some.ensures.live honest) in
    let are : AreOf c.first_area.result c.second_area.result live.areas = rw c.in-Ok-Some.field-0-is at c.in-Ok-Some.ensures.areas in
    let place : AreAreas slots live.areas =
    subst (λ (a : Area). AreOf a (area_b slots) live.areas) c.first_area.ensures (subst (λ (b : Area). AreOf c.first_area.result b live.areas) c.second_area.ensures are) in
    rw (p.1, p.2) (λ device. inr (live.areas, live.header, record { place = place; at = found.is }, c.in_err-version-in-Ok-Some.ensures))
