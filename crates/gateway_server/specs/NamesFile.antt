-- What a file of names may give.
use Rattle.std.specs.Prelude.{◌≡◌, ◌⊎◌, ℕ, List, Result, Err, MatchResult}
use Rattle.lnsd_operator.specs.declared.fault.NameListFault.{NameListFault}
use Rattle.lnsd_operator.specs.declared.fault.NameListFault.TheVariants as faults
use Rattle.lnsd_links.specs.Names.{IsNameListOf, IsNoNameListOf, lines_of}
use Rattle.lnsd_links.specs.declared.name_list.NameList.{NameList}

-- the list of some text, or the fault of that text; or the file can't be read
abbrev pub IsOfSomeText : Result NameList NameListFault → Type 0
IsOfSomeText result =
    (result ≡ Err faults.File)
    ⊎ ((text : List ℕ)
    × MatchResult result (IsNameListOf (lines_of text)) (IsNoNameListOf (lines_of text)))
