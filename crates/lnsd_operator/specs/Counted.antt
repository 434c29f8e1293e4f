-- Counts, as an operator reads them.
use Rattle.std.specs.Prelude.{◌++◌, ◌∷◌, ℕ, List, []}
use Rattle.std.specs.Fmt.{decimal}

-- a name, a space, a value in decimal digits, and a newline
abbrev pub count_line : List ℕ → ℕ → List ℕ
count_line name count = name ++ 32 ∷ (decimal count ++ 10 ∷ [])
