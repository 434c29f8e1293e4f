-- How long lines are.
use Rattle.std.proofs.Common.{◌≡◌, ◌≤◌, ◌+◌, ◌*◌, ◌∷◌, ℕ, List, [], length, length-append, arith, max, refl}
use Rattle.std.specs.Int.{w64, to_be_bytes}
use Rattle.std.specs.List.{join_with_byte}
use Rattle.hex.specs.Hex.{upper_digits}
use Rattle.hex.proofs.HexLemmas.{length-encode_with}
use Rattle.lw_types.specs.Hex.{eui_text, field_text, hex_text}
use Rattle.lw_types.specs.Words.{line_of}
use Rattle.lw_types.specs.declared.identifiers.Eui.{Eui}

pub length-eui : (eui : Eui) → length (eui_text eui) ≡ 16
unfolding eui_text hex_text
length-eui eui = length-encode_with upper_digits (to_be_bytes w64 eui.0)

pub length-field : (bytes : List ℕ) → length (field_text bytes) ≤ 2 * length bytes + 1
unfolding field_text hex_text
length-field [] = omega arith
length-field (byte ∷ bytes) = omega (arith, length-encode_with upper_digits (byte ∷ bytes))

pub length_of_field : (bytes : List ℕ) → length (field_text bytes) ≡ max (2 * length bytes) 1
unfolding field_text hex_text
length_of_field [] = refl
length_of_field (byte ∷ bytes) = omega (arith, length-encode_with upper_digits (byte ∷ bytes))

-- the letters of each word, with the space after it
abbrev pub letters : List (List ℕ) → ℕ
letters [] = 0
letters (word ∷ words) = length word + (1 + letters words)

pub length-line : (word : List ℕ) (words : List (List ℕ)) → length (line_of (word ∷ words)) + 1 ≤ letters (word ∷ words)
unfolding line_of
length-line word [] = omega arith
length-line word (next ∷ words) =
    omega (arith, length-append word (32 ∷ join_with_byte 32 (next ∷ words)), length-line next words)
