-- What it means that a field is read as it is spelled. The lemmas of this crate are about this;
-- codecs build the theorems about their decoders from them.
use Rattle.std.specs.Prelude.{◌≡◌, ℕ, List, ◌++◌, length, Some}
use Rattle.lw_types.specs.Hex.{IsBytes}
use Rattle.byte_fields.specs.Reading.{Reader}

-- a value is read from some bytes exactly if it is in range and they begin with its spelling
pub record IsField {X : Type 0} (In : X → Type 0) (spelled : X → List ℕ)
    (read : Reader X) : Type 0 where
  pub takes : (bytes : List ℕ) (x : X) (rest : List ℕ) → IsBytes bytes → read bytes ≡ Some (x, rest)
      → In x × (bytes ≡ spelled x ++ rest)
  pub again : (x : X) (rest : List ℕ) → In x → read (spelled x ++ rest) ≡ Some (x, rest)

-- this number of bytes
abbrev pub AreBytes : ℕ → List ℕ → Type 0
AreBytes n bytes = IsBytes bytes × (length bytes ≡ n)
