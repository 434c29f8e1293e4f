-- whether the DevEUI is new in what the decisions so far leave
use Rattle.std.proofs.Common.{◌≡◌, ◌↔◌, None, take}
use Rattle.std.specs.Prelude.{IsTrue}
use Rattle.sessions.specs.Table.{TableState, slot_of}
use Rattle.sessions.specs.Decision.{FitAll, with_decisions}
use Rattle.sessions.proofs.table.overlay.is_new_after.Given as goal

abbrev pub invariant-loop-decision : goal.invariant-loop-decision
invariant-loop-decision l =
    (t : TableState) → FitAll t l.decisions → (IsTrue l.before ↔ (slot_of l.dev_eui.0 t.devices ≡ None))
    → IsTrue l.is_new ↔ (slot_of l.dev_eui.0 (with_decisions t (take l.decision-index l.decisions)).devices ≡ None)
