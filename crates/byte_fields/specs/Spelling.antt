-- How fields are spelled.
use Rattle.std.specs.Prelude.{ℕ, Bool, false, true, List, [], ◌∷◌, length, Option, Some, None}
use Rattle.std.specs.Int.{bytes_high_first}

-- 00 or 01
abbrev pub flag : Bool → List ℕ
flag false = 0 ∷ []
flag true = 1 ∷ []

-- a number of three bytes, the highest first
abbrev pub three_be_bytes : ℕ → List ℕ
three_be_bytes n = bytes_high_first 3 n

-- a byte that gives the length, and the bytes
abbrev pub counted_bytes : List ℕ → List ℕ
counted_bytes bytes = length bytes ∷ bytes

-- a flag and, after a 1, the field
abbrev pub optional : {X : Type 0} → (X → List ℕ) → Option X → List ℕ
optional spelled None = 0 ∷ []
optional spelled (Some x) = 1 ∷ spelled x
