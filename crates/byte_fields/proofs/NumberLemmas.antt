-- Numbers, names and keys are read as they are spelled.
use Rattle.std.proofs.Common.{◌≡◌, ℕ, zero, suc, ◌/◌, ◌%◌, ◌^◌, ◌<◌, ◌≤◌, ◌&&◌, Bool, true, false}
use Rattle.std.proofs.Common.{List, [], ◌∷◌, ◌++◌, length, refl, sym, ap, ◌∙◌, arith, nat_le}
use Rattle.std.specs.Int.{w16, w32, w64, byte_at as int_byte_at, bytes_low_first, bytes_high_first}
use Rattle.std.specs.Int.{from_be_bytes, from_le_bytes, to_be_bytes, to_le_bytes}
use Rattle.std.proofs.lemmas.Bool.{and_from, and_parts, le-leb, leb-true}
use Rattle.std.proofs.lemmas.Nat.{be_bytes_2, be_bytes_4, be_bytes_8, from_be_bytes-to_be_bytes_2}
use Rattle.std.proofs.lemmas.Nat.{from_be_bytes-to_be_bytes_4, from_be_bytes-to_be_bytes_8}
use Rattle.std.proofs.lemmas.Nat.{le_bytes_2, le_bytes_4, le_bytes_8, from_le_bytes-to_le_bytes_2}
use Rattle.std.proofs.lemmas.Nat.{from_le_bytes-to_le_bytes_4, from_le_bytes-to_le_bytes_8}
use Rattle.lw_types.specs.Hex.{IsBytes}
use Rattle.lw_types.specs.Values.{IsKey}
use Rattle.lw_types.specs.declared.identifiers.Eui.{Eui}
use Rattle.lw_types.specs.declared.key.Key.{Key}
use Rattle.byte_fields.specs.Spelling.{three_be_bytes}
use Rattle.byte_fields.specs.Reading.{that, front_at, le_at, be_at, three_be_bytes_at, byte_at}
use Rattle.byte_fields.specs.Reading.{ranged_at, le_eui_at, be_eui_at, key_at}
use Rattle.byte_fields.specs.Field.{IsField, AreBytes}
use Rattle.byte_fields.proofs.FieldLemmas.{same_field, seen_field, that_field, front_field}
use Rattle.byte_fields.proofs.FieldLemmas.{byte_field}

byte_small : (place n : ℕ) → int_byte_at place n < 256
byte_small zero n = omega arith
byte_small (suc place) n = omega arith

-- the bytes of a number, the lowest first
IsBytes-low_first : (place k n : ℕ) → IsBytes (bytes_low_first place k n)
IsBytes-low_first place zero n i = omega arith
IsBytes-low_first place (suc k) n zero = byte_small place n
IsBytes-low_first place (suc k) n (suc i) = IsBytes-low_first (suc place) k n i

-- the bytes of a number, the highest first
IsBytes-high_first : (k n : ℕ) → IsBytes (bytes_high_first k n)
IsBytes-high_first zero n i = omega arith
IsBytes-high_first (suc zero) n zero = omega arith
IsBytes-high_first (suc (suc k)) n zero = omega arith
IsBytes-high_first (suc k) n (suc i) = IsBytes-high_first k n i

abbrev pub Below : ℕ → ℕ → Type 0
Below limit n = n < limit

-- ---- the lowest byte first

pub u16_le_field : IsField (Below (2 ^ 16)) (to_le_bytes w16) (le_at w16)
u16_le_field =
    seen_field (AreBytes 2) (λ bytes. bytes) (front_at 2) (front_field 2) (from_le_bytes w16)
    (Below (2 ^ 16)) (to_le_bytes w16)
    (λ bytes h. let fits = h.0 in (omega (arith, fits 0, fits 1), le_bytes_2 bytes _ h.1 h.0 refl))
    (λ n lt. (
      to_le_bytes w16 n,
      (IsBytes-low_first 0 2 n, refl),
      from_le_bytes-to_le_bytes_2 n lt,
      refl,
    ))

pub u32_le_field : IsField (Below (2 ^ 32)) (to_le_bytes w32) (le_at w32)
u32_le_field =
    seen_field (AreBytes 4) (λ bytes. bytes) (front_at 4) (front_field 4) (from_le_bytes w32)
    (Below (2 ^ 32)) (to_le_bytes w32)
    (λ bytes h. let fits = h.0 in
    (omega (arith, fits 0, fits 1, fits 2, fits 3), le_bytes_4 bytes _ h.1 h.0 refl))
    (λ n lt. (
      to_le_bytes w32 n,
      (IsBytes-low_first 0 4 n, refl),
      from_le_bytes-to_le_bytes_4 n lt,
      refl,
    ))

pub u64_le_field : IsField (Below (2 ^ 64)) (to_le_bytes w64) (le_at w64)
u64_le_field =
    seen_field (AreBytes 8) (λ bytes. bytes) (front_at 8) (front_field 8) (from_le_bytes w64)
    (Below (2 ^ 64)) (to_le_bytes w64)
    (λ bytes h. let fits = h.0 in (
      omega (arith, fits 0, fits 1, fits 2, fits 3, fits 4, fits 5, fits 6, fits 7),
      le_bytes_8 bytes _ h.1 h.0 refl,
    ))
    (λ n lt. (
      to_le_bytes w64 n,
      (IsBytes-low_first 0 8 n, refl),
      from_le_bytes-to_le_bytes_8 n lt,
      refl,
    ))

-- ---- the highest byte first

pub u16_be_field : IsField (Below (2 ^ 16)) (to_be_bytes w16) (be_at w16)
u16_be_field =
    seen_field (AreBytes 2) (λ bytes. bytes) (front_at 2) (front_field 2) (from_be_bytes w16)
    (Below (2 ^ 16)) (to_be_bytes w16)
    (λ bytes h. let fits = h.0 in (omega (arith, fits 0, fits 1), be_bytes_2 bytes _ h.1 h.0 refl))
    (λ n lt. (
      to_be_bytes w16 n,
      (IsBytes-high_first 2 n, refl),
      from_be_bytes-to_be_bytes_2 n lt,
      refl,
    ))

pub u32_be_field : IsField (Below (2 ^ 32)) (to_be_bytes w32) (be_at w32)
u32_be_field =
    seen_field (AreBytes 4) (λ bytes. bytes) (front_at 4) (front_field 4) (from_be_bytes w32)
    (Below (2 ^ 32)) (to_be_bytes w32)
    (λ bytes h. let fits = h.0 in
    (omega (arith, fits 0, fits 1, fits 2, fits 3), be_bytes_4 bytes _ h.1 h.0 refl))
    (λ n lt. (
      to_be_bytes w32 n,
      (IsBytes-high_first 4 n, refl),
      from_be_bytes-to_be_bytes_4 n lt,
      refl,
    ))

pub u64_be_field : IsField (Below (2 ^ 64)) (to_be_bytes w64) (be_at w64)
u64_be_field =
    seen_field (AreBytes 8) (λ bytes. bytes) (front_at 8) (front_field 8) (from_be_bytes w64)
    (Below (2 ^ 64)) (to_be_bytes w64)
    (λ bytes h. let fits = h.0 in (
      omega (arith, fits 0, fits 1, fits 2, fits 3, fits 4, fits 5, fits 6, fits 7),
      be_bytes_8 bytes _ h.1 h.0 refl,
    ))
    (λ n lt. (
      to_be_bytes w64 n,
      (IsBytes-high_first 8 n, refl),
      from_be_bytes-to_be_bytes_8 n lt,
      refl,
    ))

-- three bytes, as the low ones of four
with_zero : (bytes : List ℕ) → IsBytes bytes → IsBytes (0 ∷ bytes)
with_zero bytes fits zero = omega arith
with_zero bytes fits (suc i) = fits i

tail : List ℕ → List ℕ
tail [] = []
tail (first ∷ others) = others

three_be_bytes_back : (bytes : List ℕ) → AreBytes 3 bytes
    → three_be_bytes (from_be_bytes w32 (0 ∷ bytes)) ≡ bytes
unfolding tail
three_be_bytes_back bytes h =
    ap tail (be_bytes_4 (0 ∷ bytes) _ (ap suc h.1) (with_zero bytes h.0) refl)

three_be_bytes_forth : (n : ℕ) → n < 2 ^ 24 → from_be_bytes w32 (0 ∷ three_be_bytes n) ≡ n
three_be_bytes_forth n lt =
    let top : n / 16777216 % 256 ≡ 0 = omega arith in
    ap (λ (high : ℕ). from_be_bytes w32 (high ∷ three_be_bytes n)) (sym top)
    ∙ from_be_bytes-to_be_bytes_4 n (omega arith)

pub three_be_bytes_field : IsField (Below (2 ^ 24)) three_be_bytes three_be_bytes_at
three_be_bytes_field =
    seen_field (AreBytes 3) (λ bytes. bytes) (front_at 3) (front_field 3)
    (λ bytes. from_be_bytes w32 (0 ∷ bytes)) (Below (2 ^ 24)) three_be_bytes
    (λ bytes h. let fits = h.0 in
    (omega (arith, fits 0, fits 1, fits 2), three_be_bytes_back bytes h))
    (λ n lt. (three_be_bytes n, (IsBytes-high_first 3 n, refl), three_be_bytes_forth n lt, refl))

abbrev pub Between : ℕ → ℕ → ℕ → Type 0
Between least most n = (least ≤ n) × (n ≤ most)

pub ranged_field : (least most : ℕ) → most < 256
    → IsField (Between least most) (λ n. n ∷ []) (ranged_at least most)
ranged_field least most small =
    same_field (λ n. (n < 256) × ((nat_le least n && nat_le n most) ≡ true)) (Between least most)
    (λ n. n ∷ []) (ranged_at least most)
    (that_field (λ n. n < 256) (λ n. n ∷ []) byte_at byte_field
    (λ n. nat_le least n && nat_le n most))
    (λ n h. let p = and_parts (nat_le least n) (nat_le n most) h.1 in
    (leb-true least n p.0, leb-true n most p.1))
    (λ n h. let le = h.1 in (
      omega arith,
      and_from (nat_le least n) (nat_le n most) (le-leb least n h.0) (le-leb n most h.1),
    ))

-- ---- names and keys

pub key_field : IsField IsKey (λ key. key.0) key_at
key_field =
    seen_field (AreBytes 16) (λ bytes. bytes) (front_at 16) (front_field 16)
    (λ bytes. record { 0 = bytes }) IsKey (λ key. key.0)
    (λ bytes h. (h, refl))
    (λ key h. (key.0, h, refl, refl))

abbrev pub IsEui : Eui → Type 0
IsEui eui = eui.0 < 2 ^ 64

pub be_eui_field : IsField IsEui (λ eui. to_be_bytes w64 eui.0) be_eui_at
be_eui_field =
    seen_field (Below (2 ^ 64)) (to_be_bytes w64) (be_at w64) u64_be_field
    (λ n. record { 0 = n }) IsEui (λ eui. to_be_bytes w64 eui.0)
    (λ n h. (h, refl))
    (λ eui h. (eui.0, h, refl, refl))

pub le_eui_field : IsField IsEui (λ eui. to_le_bytes w64 eui.0) le_eui_at
le_eui_field =
    seen_field (Below (2 ^ 64)) (to_le_bytes w64) (le_at w64) u64_le_field
    (λ n. record { 0 = n }) IsEui (λ eui. to_le_bytes w64 eui.0)
    (λ n h. (h, refl))
    (λ eui h. (eui.0, h, refl, refl))
