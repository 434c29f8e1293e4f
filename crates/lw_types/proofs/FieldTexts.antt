-- Byte texts in a line: hex, with a dash for no bytes.
use Rattle.std.proofs.Common.{◌≡◌, ◌≢◌, ℕ, List, [], ◌∷◌, length, refl, sym, ap, ◌∙◌, arith}
use Rattle.hex.specs.Hex.{IsBytes}
use Rattle.lw_types.specs.Hex.{hex_text, field_text, IsHexText, IsFieldText}
use Rattle.lw_types.proofs.UpperHex.{hex_text_injective, hex_text-nil, length-hex_text}

pub dash_is_nothing : field_text [] ≡ 45 ∷ []
unfolding field_text
dash_is_nothing = refl

pub not_empty : (bytes : List ℕ) → field_text bytes ≡ [] → ⊥
unfolding field_text
not_empty [] e = absurd cc
not_empty (byte ∷ bytes) e = absurd (let len = length-hex_text (byte ∷ bytes) in omega (arith, len, ap length e))

-- a dash is the text of the empty list alone
pub dash_alone : (bytes : List ℕ) → field_text bytes ≡ 45 ∷ [] → [] ≡ bytes
unfolding field_text
dash_alone [] e = refl
dash_alone (byte ∷ bytes) e = absurd (let len = length-hex_text (byte ∷ bytes) in omega (arith, len, ap length e))

-- a text that is neither empty nor a dash is a byte text in a line if it is hex
pub field_from_hex : (text bytes : List ℕ) → text ≢ [] → text ≡ hex_text bytes → text ≡ field_text bytes
unfolding field_text
field_from_hex text [] some e = absurd (some (e ∙ hex_text-nil))
field_from_hex text (byte ∷ bytes) some e = e

pub hex_from_field : (text bytes : List ℕ) → text ≢ 45 ∷ [] → text ≡ field_text bytes → text ≡ hex_text bytes
unfolding field_text
hex_from_field text [] other e = absurd (other e)
hex_from_field text (byte ∷ bytes) other e = e

pub IsFieldText-from_hex : (text : List ℕ) → text ≢ [] → IsHexText text → IsFieldText text
IsFieldText-from_hex text some h = (h.0, h.1, field_from_hex text h.0 some h.2)

pub IsHexText-from_field : (text : List ℕ) → text ≢ 45 ∷ [] → IsFieldText text → IsHexText text
IsHexText-from_field text other h = (h.0, h.1, hex_from_field text h.0 other h.2)

pub dash_is_text : IsFieldText (45 ∷ [])
dash_is_text = ([], λ i. omega arith, sym dash_is_nothing)

-- no two lists of bytes share a text
pub field_text_injective : (a b : List ℕ) → IsBytes a → IsBytes b → field_text a ≡ field_text b → a ≡ b
unfolding field_text
field_text_injective [] [] fits_a fits_b e = refl
field_text_injective [] (y ∷ b) fits_a fits_b e = dash_alone (y ∷ b) (sym e)
field_text_injective (x ∷ a) [] fits_a fits_b e = sym (dash_alone (x ∷ a) e)
field_text_injective (x ∷ a) (y ∷ b) fits_a fits_b e = hex_text_injective (x ∷ a) (y ∷ b) fits_a fits_b e
