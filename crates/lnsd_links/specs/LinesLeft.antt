-- What is left to read of a list of names.
use Rattle.std.specs.Prelude.{ℕ, List}
use Rattle.lnsd_links.specs.NameLines.{lines_in}
use Rattle.lnsd_links.specs.declared.name_lines.ListLines.{ListLines}

-- the lines that are left to read
abbrev pub lines_left : ListLines → List (List ℕ)
lines_left lines = lines_in lines.rest
