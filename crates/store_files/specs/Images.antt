-- What was read of a source.
use Rattle.std.specs.Prelude.{◌≡◌, ℕ, List, length, take}

-- these are the first bytes
abbrev pub AreFirstOf : List ℕ → List ℕ → Type 0
AreFirstOf content front = front ≡ take (length front) content
