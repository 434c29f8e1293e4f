-- the devices that the decisions so far leave
use Rattle.std.proofs.Common.{◌≡◌, length, take}
use Rattle.sessions.specs.Decision.{FitAll, with_decisions}
use Rattle.sessions.specs.Table.{TableState}
use Rattle.sessions.proofs.table.overlay.len_after.Given as goal

abbrev pub invariant-loop-decision : goal.invariant-loop-decision
invariant-loop-decision l =
    (t : TableState) → FitAll t l.decisions → l.before ≡ length t.devices
    → l.len ≡ length (with_decisions t (take l.decision-index l.decisions)).devices
