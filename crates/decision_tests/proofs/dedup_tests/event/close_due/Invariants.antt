use Rattle.std.proofs.Common.{◌≤◌, length}
use Rattle.std.specs.Prelude.{All}
use Rattle.decision_tests.proofs.dedup_tests.event.close_due.Given as goal

abbrev pub invariant-loop-heard : goal.invariant-loop-heard
invariant-loop-heard l = All (λ w. w.opened ≤ l.now) l.windows

abbrev pub decreases-loop-heard : goal.decreases-loop-heard
decreases-loop-heard l = length l.windows
