-- The digits of one more byte.
use Rattle.std.proofs.Common.{◌≡◌, ◌<◌, ◌+◌, ◌/◌, ◌%◌, ◌∙◌, ℕ, List, [], ◌∷◌, ◌++◌, ap, length, refl, slice_index, take}
use Rattle.std.proofs.lemmas.List.{take_more}
use Rattle.hex.specs.Hex.{encode_with, upper_digits}
use Rattle.lw_types.specs.Hex.{hex_text}

-- the digits of a byte
abbrev pub digits_of : ℕ → List ℕ
digits_of byte = slice_index upper_digits (byte / 16) ∷ slice_index upper_digits (byte % 16) ∷ []

hex_text-push : (bytes : List ℕ) (byte : ℕ) → hex_text (bytes ++ byte ∷ []) ≡ hex_text bytes ++ digits_of byte
unfolding hex_text encode_with
hex_text-push [] byte = refl
hex_text-push (first ∷ bytes) byte =
    ap (λ (t : List ℕ). slice_index upper_digits (first / 16) ∷ slice_index upper_digits (first % 16) ∷ t) (hex_text-push bytes byte)

pub hex_text-nil : hex_text [] ≡ []
unfolding hex_text encode_with
hex_text-nil = refl

pub hex_text-take_more : (bytes : List ℕ) (i : ℕ) → i < length bytes
    → hex_text (take (i + 1) bytes) ≡ hex_text (take i bytes) ++ digits_of (slice_index bytes i)
hex_text-take_more bytes i lt = ap hex_text (take_more bytes i 0 lt) ∙ hex_text-push (take i bytes) (slice_index bytes i)
