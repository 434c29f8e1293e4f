use Rattle.std.proofs.Common.{◌<◌, ◌+◌, ◌^◌, ◌++◌, ◌∷◌, List, length}
use Rattle.device_lists.specs.Columns.{IsListHead}
use Rattle.device_lists.specs.Lists.{AreRead}
use Rattle.device_lists.specs.Rows.{AreRows, AreRowsAfter, Numbered}
use Rattle.device_lists.proofs.reading.read_list.Given as goal

-- the rows of the text are the head, those that were read, and those that are left
abbrev pub invariant-loop-reading : goal.invariant-loop-reading
invariant-loop-reading l =
    (l.rows.line + length l.rows.rest.now < 2 ^ 64)
    × (first : Numbered) × IsListHead first.values l.head.items
    × (seen : List Numbered)
    × AreRead l.fn.usage l.head.items seen l.reading.list.lines.items l.reading.list.changes.items l.reading.faults.items
    × ((more : List Numbered) → AreRowsAfter l.rows.line l.rows.rest.now more → AreRows l.fn.text (first ∷ (seen ++ more)))

abbrev pub decreases-loop-reading : goal.decreases-loop-reading
decreases-loop-reading l = length l.rows.rest.now
