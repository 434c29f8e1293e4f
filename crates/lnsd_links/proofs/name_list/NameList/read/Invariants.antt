-- The list of the lines so far.
use Rattle.std.proofs.Common.{◌≡◌, ◌++◌, ℕ, List, length}
use Rattle.lnsd_links.specs.LinesLeft.{lines_left}
use Rattle.lnsd_links.specs.NameLines.{lines_of}
use Rattle.lnsd_links.specs.Names.{IsNameListOf}
use Rattle.lnsd_links.proofs.name_list.NameList.read.Given as goal

abbrev pub invariant-loop-line : goal.invariant-loop-line
invariant-loop-line l =
    (before : List (List ℕ)) × ((lines_of l.fn.text ≡ before ++ lines_left l.line-iterator)
    × ((l.number ≡ length before) × IsNameListOf before l.list))
