use Rattle.std.proofs.Common.{List, ℕ, ap, subst}
use Rattle.std.proofs.lemmas.Result.{err_from_is_err_and}
use Rattle.disk.specs.State.{State}
use Rattle.gate_log.specs.Opening.{disk_in_opening}
use Rattle.store.specs.Faults.{HeaderFault}
use Rattle.store.proofs.Finding.{AreaLaws, header_fault}
use Rattle.store.proofs.recover.read_store_front.Goals as goal

pub returns-in_err-live-clause-refused : goal.returns-in_err-live-clause-refused
returns-in_err-live-clause-refused g c honest =
    let p = err_from_is_err_and c.from_residual-in_err-live.result c.from_residual-in_err-live.ensures.1 in
    rw (p.1, p.2) (λ device.
    let s = c.in_ok-superblock in
    let content = (g.D.Disk.state (disk_in_opening c.args.opening.now)).content in
    let same = ap (λ (x : State). x.content) (s.ensures.reads.same honest) in
    let e = c.in_err-live.field-0.0 in
    let slots = s.superblock.slots in
    let laws : AreaLaws =
    record { live = c.what_is_held_is_live.ensures.live; room = c.what_is_held_is_live.ensures.room; one = c.one_area_is_live.ensures; none = c.none_live_holds_nothing.ensures; same = c.a_disk_holds_one_contents.ensures } in
    header_fault content s.superblock.net_id slots (s.ensures.found honest) (s.ensures.only honest) s.ensures.length laws e
    (subst (λ (l : List ℕ). HeaderFault l slots e) same (c.in_err-live.ensures.refused honest device)))
