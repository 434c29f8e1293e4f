-- The lines of an input.
use Rattle.std.specs.Prelude.{◌≡◌, ◌==◌, ◌<◌, ◌⊎◌, ℕ, Bool, false, List, [], ◌∷◌, ◌++◌, length, All}
use Rattle.std.specs.Prelude.{Option, Some, None}
use denote.Ref.{Bor}

abbrev pub is_newline : ℕ → Bool
is_newline byte = byte == 10

-- it contains no newline
abbrev pub IsOneLine : List ℕ → Type 0
IsOneLine line = All (λ byte. is_newline byte ≡ false) line

-- a line that ends at a newline, or at the end of the input
abbrev pub IsSplit : List ℕ → List ℕ → List ℕ → Type 0
IsSplit input line rest = (input ≡ line ++ 10 ∷ rest) ⊎ ((input ≡ line) × (rest ≡ []))

-- the first line of an input and what is left after it; an empty input has no line
abbrev pub TakesLine : List ℕ → Option (Bor (List ℕ)) → List ℕ → Type 0
TakesLine input None rest = (input ≡ []) × (rest ≡ [])
TakesLine input (Some line) rest =
    (0 < length input) × (IsOneLine line.now × IsSplit input line.now rest)
