use Rattle.std.proofs.Common.{◌≤◌}
use Rattle.std.specs.Prelude.{All}
use Rattle.decision_tests.proofs.dedup_tests.window_tests.play_all.Given as goal

abbrev pub invariant-loop-moment : goal.invariant-loop-moment
invariant-loop-moment l = All (λ w. w.opened ≤ l.clock) l.windows
