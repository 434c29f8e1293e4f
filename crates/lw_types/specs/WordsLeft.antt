-- What is left to read of a line.
use Rattle.std.specs.Prelude.{ℕ, List}
use Rattle.lw_types.specs.declared.words.Words.{Words}
use Rattle.lw_types.specs.Words.{words_in}

-- the words that are left to read
abbrev pub words_left : Words → List (List ℕ)
words_left words = words_in words.rest
