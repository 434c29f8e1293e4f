-- what the decisions so far leave at the slot
use Rattle.std.proofs.Common.{◌≡◌, take}
use Rattle.std.specs.Option.{option_copied}
use Rattle.std.specs.List.{slice_get}
use Rattle.sessions.specs.Decision.{FitAll, with_decisions}
use Rattle.sessions.specs.Table.{TableState}
use Rattle.sessions.proofs.table.overlay.device_after.Given as goal

abbrev pub invariant-loop-decision : goal.invariant-loop-decision
invariant-loop-decision l =
    (t : TableState) → FitAll t l.decisions → option_copied l.before ≡ slice_get t.devices l.slot
    → option_copied l.found ≡ slice_get (with_decisions t (take l.decision-index l.decisions)).devices l.slot
