-- The words of a line, separated by exactly one space each.
use Rattle.std.specs.Prelude.{◌≡◌, ℕ, ◌<◌, ◌==◌, Bool, false, List, [], length, All, Option, Some}
use Rattle.std.specs.Prelude.{None}
use Rattle.std.specs.List.{AllByRecursion, join_with_byte, slice_split}
use denote.Ref.{Bor}

abbrev pub is_space : ℕ → Bool
is_space c = c == 32

-- a line of n spaces has n + 1 words, some of which may be empty
unfoldable pub words_of : List ℕ → List (List ℕ)
words_of line = slice_split is_space line

-- the line of some words
unfoldable pub line_of : List (List ℕ) → List ℕ
line_of words = join_with_byte 32 words

-- it has no space
abbrev pub IsWord : List ℕ → Type 0
IsWord text = All (λ c. is_space c ≡ false) text

-- one word or more
abbrev pub AreWords : List (List ℕ) → Type 0
AreWords words = (0 < length words) × AllByRecursion IsWord words

-- the words of the rest of a line, if there is a rest
abbrev pub words_in : Option (Bor (List ℕ)) → List (List ℕ)
words_in None = []
words_in (Some rest) = words_of rest.now
