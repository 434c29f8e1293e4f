-- A value is its bytes, and so has one text.
use Rattle.std.proofs.Common.{◌≡◌, ℕ, zero, suc, ◌<◌, ◌^◌, List, [], ◌∷◌, false, true, get_or, length, slice_index, Option, Some, None, refl, sym, ap, ◌∙◌, arith}
use Rattle.std.specs.Prelude.{IfSome, SomeIff}
use Rattle.std.proofs.lemmas.List.Elements.{All-nil}
use Rattle.std.specs.Int.{w32, w64, bytes_high_first, from_be_bytes, to_be_bytes}
use Rattle.std.proofs.lemmas.Nat.{be_bytes_4, be_bytes_8, from_be_bytes-to_be_bytes_4, from_be_bytes-to_be_bytes_8}
use Rattle.hex.specs.Hex.{IsBytes}
use Rattle.lw_types.specs.declared.identifiers.Eui.{Eui}
use Rattle.lw_types.specs.declared.identifiers.DevAddr.{DevAddr}
use Rattle.lw_types.specs.declared.key.Key.{Key}
use Rattle.lw_types.specs.Words.{is_space, IsWord}
use Rattle.lw_types.proofs.Lines.{behind_dash, word_from_bytes}
use Rattle.lw_types.specs.Hex.{hex_text, field_text, key_text, is_upper_digit, eui_text, dev_addr_text, net_id_text}
use Rattle.lw_types.proofs.UpperHex.{hex_text_injective, upper-hex_text, IsArrayText}

pub IsBytes-high_first : (k n : ℕ) → IsBytes (bytes_high_first k n)
IsBytes-high_first zero n i = omega arith
IsBytes-high_first (suc zero) n zero = omega arith
IsBytes-high_first (suc (suc k)) n zero = omega arith
IsBytes-high_first (suc k) n (suc i) = IsBytes-high_first k n i

-- ---- EUIs

pub eui_found : (text bytes : List ℕ) (n : ℕ) → IsArrayText text 8 bytes → n ≡ from_be_bytes w64 bytes → text ≡ eui_text (record { 0 = n })
unfolding eui_text
eui_found text bytes n h e = rw (be_bytes_8 bytes n h.1 h.0 e) h.2

pub eui_only : (text bytes : List ℕ) (n : ℕ) (eui : Eui) → IsArrayText text 8 bytes → n ≡ from_be_bytes w64 bytes → eui.0 < 2 ^ 64 → text ≡ eui_text eui → n ≡ eui.0
unfolding eui_text
eui_only text bytes n eui h e fits is =
    let same = hex_text_injective bytes (to_be_bytes w64 eui.0) h.0 (IsBytes-high_first 8 eui.0) (sym h.2 ∙ is) in
    e ∙ ap (from_be_bytes w64) same ∙ from_be_bytes-to_be_bytes_8 eui.0 fits

pub eui_none : (text : List ℕ) (eui : Eui) → ((bytes : List ℕ) → IsArrayText text 8 bytes → ⊥) → text ≡ eui_text eui → ⊥
unfolding eui_text
eui_none text eui h is = h (to_be_bytes w64 eui.0) (IsBytes-high_first 8 eui.0, refl, is)

-- ---- addresses

pub dev_addr_found : (text bytes : List ℕ) (n : ℕ) → IsArrayText text 4 bytes → n ≡ from_be_bytes w32 bytes → text ≡ dev_addr_text (record { 0 = n })
unfolding dev_addr_text
dev_addr_found text bytes n h e = rw (be_bytes_4 bytes n h.1 h.0 e) h.2

pub dev_addr_only : (text bytes : List ℕ) (n : ℕ) (address : DevAddr) → IsArrayText text 4 bytes → n ≡ from_be_bytes w32 bytes → address.0 < 2 ^ 32 → text ≡ dev_addr_text address → n ≡ address.0
unfolding dev_addr_text
dev_addr_only text bytes n address h e fits is =
    let same = hex_text_injective bytes (to_be_bytes w32 address.0) h.0 (IsBytes-high_first 4 address.0) (sym h.2 ∙ is) in
    e ∙ ap (from_be_bytes w32) same ∙ from_be_bytes-to_be_bytes_4 address.0 fits

pub dev_addr_none : (text : List ℕ) (address : DevAddr) → ((bytes : List ℕ) → IsArrayText text 4 bytes → ⊥) → text ≡ dev_addr_text address → ⊥
unfolding dev_addr_text
dev_addr_none text address h is = h (to_be_bytes w32 address.0) (IsBytes-high_first 4 address.0, refl, is)

-- ---- networks

-- three bytes that are a number below 64
three_bytes : (bytes : List ℕ) (n : ℕ) → IsBytes bytes → length bytes ≡ 3 → n ≡ from_be_bytes w32 (0 ∷ bytes) → n < 64 → bytes ≡ 0 ∷ 0 ∷ n ∷ []
three_bytes [] n fits len e lt = absurd (omega arith)
three_bytes (a ∷ []) n fits len e lt = absurd (omega arith)
three_bytes (a ∷ b ∷ []) n fits len e lt = absurd (omega arith)
three_bytes (a ∷ b ∷ c ∷ []) n fits len e lt =
    let a-is : a ≡ 0 = omega arith in
    let b-is : b ≡ 0 = omega arith in
    let c-is : c ≡ n = omega arith in
    rw (a-is, b-is, c-is) refl
three_bytes (a ∷ b ∷ c ∷ d ∷ bytes) n fits len e lt = absurd (omega arith)

IsBytes-network : (network : ℕ) → network < 64 → IsBytes (0 ∷ 0 ∷ network ∷ [])
IsBytes-network network lt zero = omega arith
IsBytes-network network lt (suc zero) = omega arith
IsBytes-network network lt (suc (suc zero)) = omega arith
IsBytes-network network lt (suc (suc (suc i))) = omega arith

net_id_found : (text bytes : List ℕ) (n : ℕ) → IsArrayText text 3 bytes → n ≡ from_be_bytes w32 (0 ∷ bytes) → n < 64 → text ≡ net_id_text n
unfolding net_id_text
net_id_found text bytes n h e lt = rw (← three_bytes bytes n h.0 h.1 e lt) h.2

net_id_only : (text bytes : List ℕ) (n network : ℕ) → IsArrayText text 3 bytes → n ≡ from_be_bytes w32 (0 ∷ bytes) → network < 64 → text ≡ net_id_text network → n ≡ network
unfolding net_id_text
net_id_only text bytes n network h e lt is =
    let same = hex_text_injective bytes (0 ∷ 0 ∷ network ∷ []) h.0 (IsBytes-network network lt) (sym h.2 ∙ is) in
    let number : from_be_bytes w32 (0 ∷ 0 ∷ 0 ∷ network ∷ []) ≡ network = omega arith in
    e ∙ ap (λ (bs : List ℕ). from_be_bytes w32 (0 ∷ bs)) same ∙ number

pub net_id_none : (text : List ℕ) (network : ℕ) → ((bytes : List ℕ) → IsArrayText text 3 bytes → ⊥) → network < 64 → text ≡ net_id_text network → ⊥
unfolding net_id_text
net_id_none text network h lt is = h (0 ∷ 0 ∷ network ∷ []) (IsBytes-network network lt, refl, is)

-- the network of three bytes, if their number is a network's
pub network_found : (text bytes : List ℕ) (n : ℕ) (r : Option ℕ) → IsArrayText text 3 bytes → n ≡ from_be_bytes w32 (0 ∷ bytes) → SomeIff r (n < 64) n → IfSome r (λ network. text ≡ net_id_text network)
network_found text bytes n None h e made = tt
network_found text bytes n (Some network) h e made = rw made.1 (net_id_found text bytes n h e made.0)

pub network_only : (text bytes : List ℕ) (n network : ℕ) (r : Option ℕ) → IsArrayText text 3 bytes → n ≡ from_be_bytes w32 (0 ∷ bytes) → SomeIff r (n < 64) n → network < 64 → text ≡ net_id_text network → r ≡ Some network
network_only text bytes n network None h e made lt is = absurd (made (rw (net_id_only text bytes n network h e lt is) lt))
network_only text bytes n network (Some found) h e made lt is = ap Some (made.1 ∙ net_id_only text bytes n network h e lt is)

-- ---- no two values share a text

pub eui_text_injective : (a b : Eui) → a.0 < 2 ^ 64 → b.0 < 2 ^ 64 → eui_text a ≡ eui_text b → a ≡ b
unfolding eui_text
eui_text_injective a b fits_a fits_b e =
    let same = hex_text_injective (to_be_bytes w64 a.0) (to_be_bytes w64 b.0) (IsBytes-high_first 8 a.0) (IsBytes-high_first 8 b.0) e in
    let number : a.0 ≡ b.0 = sym (from_be_bytes-to_be_bytes_8 a.0 fits_a) ∙ ap (from_be_bytes w64) same ∙ from_be_bytes-to_be_bytes_8 b.0 fits_b in
    ap (λ (n : ℕ). record { 0 = n }) number

pub dev_addr_text_injective : (a b : DevAddr) → a.0 < 2 ^ 32 → b.0 < 2 ^ 32 → dev_addr_text a ≡ dev_addr_text b → a ≡ b
unfolding dev_addr_text
dev_addr_text_injective a b fits_a fits_b e =
    let same = hex_text_injective (to_be_bytes w32 a.0) (to_be_bytes w32 b.0) (IsBytes-high_first 4 a.0) (IsBytes-high_first 4 b.0) e in
    let number : a.0 ≡ b.0 = sym (from_be_bytes-to_be_bytes_4 a.0 fits_a) ∙ ap (from_be_bytes w32) same ∙ from_be_bytes-to_be_bytes_4 b.0 fits_b in
    ap (λ (n : ℕ). record { 0 = n }) number

pub net_id_text_injective : (a b : ℕ) → a < 64 → b < 64 → net_id_text a ≡ net_id_text b → a ≡ b
unfolding net_id_text
net_id_text_injective a b fits_a fits_b e =
    ap (λ (bytes : List ℕ). slice_index bytes 2) (hex_text_injective (0 ∷ 0 ∷ a ∷ []) (0 ∷ 0 ∷ b ∷ []) (IsBytes-network a fits_a) (IsBytes-network b fits_b) e)

pub key_text_injective : (a b : Key) → IsBytes a.0 → IsBytes b.0 → key_text a ≡ key_text b → a ≡ b
unfolding key_text
key_text_injective a b fits_a fits_b e = ap (λ (bytes : List ℕ). record { 0 = bytes }) (hex_text_injective a.0 b.0 fits_a fits_b e)

-- ---- no text has a space

hex_digit_apart : (c : ℕ) → is_upper_digit c ≡ true → c ≡ 32 → ⊥
hex_digit_apart c upper e = grind arith

pub IsWord-hex_text : (bytes : List ℕ) → IsBytes bytes → IsWord (hex_text bytes)
IsWord-hex_text bytes fits = word_from_bytes (hex_text bytes) (λ i lt. hex_digit_apart (get_or (hex_text bytes) i 0) (upper-hex_text bytes fits i 0 lt))

pub IsWord-field_text : (bytes : List ℕ) → IsBytes bytes → IsWord (field_text bytes)
unfolding field_text
IsWord-field_text [] fits = behind_dash [] (All-nil (λ c. is_space c ≡ false))
IsWord-field_text (byte ∷ bytes) fits = IsWord-hex_text (byte ∷ bytes) fits

pub IsWord-eui_text : (eui : Eui) → IsWord (eui_text eui)
unfolding eui_text
IsWord-eui_text eui = IsWord-hex_text (to_be_bytes w64 eui.0) (IsBytes-high_first 8 eui.0)

pub IsWord-dev_addr_text : (address : DevAddr) → IsWord (dev_addr_text address)
unfolding dev_addr_text
IsWord-dev_addr_text address = IsWord-hex_text (to_be_bytes w32 address.0) (IsBytes-high_first 4 address.0)

pub IsWord-net_id_text : (network : ℕ) → network < 64 → IsWord (net_id_text network)
unfolding net_id_text
IsWord-net_id_text network lt = IsWord-hex_text (0 ∷ 0 ∷ network ∷ []) (IsBytes-network network lt)

pub IsWord-key_text : (key : Key) → IsBytes key.0 → IsWord (key_text key)
unfolding key_text
IsWord-key_text key fits = IsWord-hex_text key.0 fits
