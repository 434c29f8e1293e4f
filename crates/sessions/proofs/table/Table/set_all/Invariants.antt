-- the records so far are placed, and the other decisions wait
use Rattle.std.proofs.Common.{◌≡◌, ◌++◌}
use Rattle.sessions.specs.Decision.{FitAll, with_decisions}
use Rattle.sessions.proofs.table.Table.set_all.Given as goal

abbrev pub invariant-loop-decision : goal.invariant-loop-decision
invariant-loop-decision l =
    (with_decisions l.self l.decision-iterator.rest.items ≡ with_decisions l.fn.self l.fn.batch)
    × FitAll l.self l.decision-iterator.rest.items
    × (l.placed ++ l.decision-iterator.rest.items ≡ l.fn.batch)
