use Rattle.std.proofs.Common.{◌≤◌, ◌+◌, List, length}
use Rattle.device_lists.specs.Rows.{AreRowsAfter, Numbered}
use Rattle.device_lists.proofs.rows.Rows.next.Given as goal

-- what is left is at the end of what was left, and what was taken since has no row
abbrev pub invariant-loop-alloc : goal.invariant-loop-alloc
invariant-loop-alloc l =
    (length l.self.rest.now ≤ length l.initial.self.rest.now)
    × (l.self.line + length l.self.rest.now ≤ l.initial.self.line + length l.initial.self.rest.now)
    × ((more : List Numbered) → AreRowsAfter l.self.line l.self.rest.now more
    → AreRowsAfter l.initial.self.line l.initial.self.rest.now more)

abbrev pub decreases-loop-alloc : goal.decreases-loop-alloc
decreases-loop-alloc l = length l.self.rest.now
