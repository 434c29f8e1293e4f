use Rattle.std.proofs.Common.{◌≡◌, ℕ, List, Result, Ok, Err, length, refl, sym, subst}
use Rattle.std.specs.Prelude.{IfOk}
use Rattle.gate_log.specs.declared.error.RecoverError.{RecoverError}
use Rattle.gate_log.specs.declared.layout.Areas.{Areas}
use Rattle.gate_log.specs.declared.layout.Header.{Header}
use Rattle.gate_log.specs.declared.recover.Recovered.{Recovered}
use Rattle.gate_log.specs.Areas.{AreLaidOut, HoldsIn, IsLiveArea, IsOlder}
use Rattle.gate_log.specs.Recovered.{IsRecovered, IsRecoveredIn}
use Rattle.gate_log.proofs.Unique.{is_live, one_live}
use Rattle.gate_log.proofs.opening.Opening.recover.Goals as goal

held : (areas : Areas) (h : Header) (disk : List ℕ) (result : Result Recovered RecoverError) → AreLaidOut areas (length disk) → IsLiveArea areas h disk → IfOk result (IsRecoveredIn areas.live disk) → IfOk result (λ r. r.header ≡ h) → IfOk result (IsRecovered areas disk)
held areas h disk (Ok r) layout live recovered header = record {
  holds = record {
    layout = layout;
    size = refl;
    front = refl;
    live = recovered.holds;
    other = subst (λ (k : Header). IsOlder k.generation areas.other disk) (sym header) live.other;
  };
  next = recovered.next;
}
held areas h disk (Err e) layout live recovered header = tt

pub returns-clause-recovered : goal.returns-clause-recovered
returns-clause-recovered g c honest live =
    held c.args.live.areas c.args.live.header (g.D.Disk.state c.args.self.now.disk).content c.recover_area.result c.requires.layout live (c.recover_area.ensures.recovered honest live.header) c.recover_area.ensures.header

pub returns-clause-damaged : goal.returns-clause-damaged
returns-clause-damaged g c honest live damaged a b its contents are holds =
    let disk = (g.D.Disk.state c.args.self.now.disk).content in
    let areas = c.args.live.areas in
    let same = one_live a b disk areas contents.areas c.args.live.header contents.journal.header its are live (is_live disk contents holds) in
    c.recover_area.ensures.damaged honest live.header damaged contents.journal (subst (λ (x : Areas). HoldsIn x.live contents.journal disk) (sym same.0) holds.live)
