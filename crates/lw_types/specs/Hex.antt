-- The texts of bytes and of the values made of them: two upper-case hex digits a byte, the first
-- byte first.
use Rattle.std.specs.Prelude.{◌≡◌, ℕ, Bool, ◌&&◌, ◌||◌, nat_le, List, [], ◌∷◌, codes}
use Rattle.std.specs.Int.{w32, w64, to_be_bytes}
use Rattle.hex.specs.Hex.{encode_upper}
pub use Rattle.hex.specs.Hex.{IsBytes}
use Rattle.lw_types.specs.declared.identifiers.Eui.{Eui}
use Rattle.lw_types.specs.declared.identifiers.DevAddr.{DevAddr}
use Rattle.lw_types.specs.declared.key.Key.{Key}

-- 48 to 57 are `0` to `9`, and 65 to 70 `A` to `F`
abbrev pub is_upper_digit : ℕ → Bool
is_upper_digit c = nat_le 48 c && nat_le c 57 || nat_le 65 c && nat_le c 70

-- two digits for each byte
unfoldable pub hex_text : List ℕ → List ℕ
hex_text bytes = encode_upper bytes

-- the text of some bytes
abbrev pub IsHexText : List ℕ → Type 0
IsHexText text = (bytes : List ℕ) × IsBytes bytes × (text ≡ hex_text bytes)

-- a byte text in a line: a dash if there are no bytes
unfoldable pub field_text : List ℕ → List ℕ
field_text [] = codes "-"
field_text (byte ∷ bytes) = hex_text (byte ∷ bytes)

abbrev pub IsFieldText : List ℕ → Type 0
IsFieldText text = (bytes : List ℕ) × IsBytes bytes × (text ≡ field_text bytes)

-- 16 digits
unfoldable pub eui_text : Eui → List ℕ
eui_text eui = hex_text (to_be_bytes w64 eui.0)

-- 8 digits
unfoldable pub dev_addr_text : DevAddr → List ℕ
dev_addr_text address = hex_text (to_be_bytes w32 address.0)

-- 6 digits
unfoldable pub net_id_text : ℕ → List ℕ
net_id_text network = hex_text (0 ∷ 0 ∷ network ∷ [])

-- 32 digits
unfoldable pub key_text : Key → List ℕ
key_text key = hex_text key.0
