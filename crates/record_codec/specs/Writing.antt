-- Writing after other bytes.
use Rattle.std.specs.Prelude.{◌≡◌, ℕ, List, length, take}

-- the old bytes still stand in front
abbrev pub KeepsFront : List ℕ → List ℕ → Type 0
KeepsFront old new = take (length old) new ≡ old
