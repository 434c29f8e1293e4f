-- the decisions so far continue the table
use Rattle.std.proofs.Common.{◌≡◌, ◌+◌, take}
use Rattle.sessions.specs.Decision.{ContinueAll, with_decisions}
use Rattle.sessions.proofs.table.Table.continuation_end_after.Given as goal

abbrev pub invariant-loop-at : goal.invariant-loop-at
invariant-loop-at l = record { so_far : ContinueAll (with_decisions l.self l.earlier) l.seq (take l.at l.decisions); number : l.last ≡ l.seq + l.at }
