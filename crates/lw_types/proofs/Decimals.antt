-- A decimal with one spelling is what `decimal` writes.
use Rattle.std.proofs.Common.{◌≡◌, ◌≢◌, ℕ, zero, suc, ◌^◌, ◌<◌, ◌≤◌, true, false, List, [], ◌∷◌, drop, length, get_or, Some, Result, Ok, Err, refl, sym, ap, ◌∙◌, arith, inl, inr}
use Rattle.std.specs.Prelude.{FitsSigned, IfSome, ℤ, pos, negsuc, nat_le, neg_ℤ, ◌||◌}
use lib.Signed.{mag}
use Rattle.std.specs.Fmt.{decimal, signed_decimal}
use Rattle.std.specs.Int.{w16}
use Rattle.std.specs.Result.{result_ok}
use Rattle.std.specs.Str.Parse.{AllDigits, ParsesSigned, ParsesUnsigned, digits_value}
use Rattle.std.proofs.lemmas.Bool.{and_from, both_ways, le-leb, or_cases, or_left, or_right}
use Rattle.std.proofs.lemmas.Fmt.{decimal-digits_value, decimal_digit, decimal_nonempty, digits_decimal, first_decimal, parse-decimal, parse-signed_decimal, signed_decimal_injective}
use Rattle.std.proofs.lemmas.Str.Parse.{IsNumeralModel, digit_at, numerals_by_value, parse_plain, parse_signed_minus, parse_signed_plain, tells_digits}
use Rattle.lw_types.specs.Words.{IsWord}
use Rattle.lw_types.proofs.Lines.{behind_dash, word_from_bytes}
use Rattle.lw_types.specs.Decimal.{starts_plain, starts_with_minus}

own : IsNumeralModel (AllDigits 10) (digits_value 10)
own = numerals_by_value (AllDigits 10) tells_digits

-- what the test of the first byte says
record IsPlain (text : List ℕ) : Type 0 where
  plus : get_or text 0 0 ≢ 43
  minus : get_or text 0 0 ≢ 45
  zero_alone : get_or text 0 0 ≡ 48 → length text ≡ 1

plain : (text : List ℕ) → starts_plain text ≡ true → IsPlain text
plain text h = record { plus = λ e. grind arith; minus = λ e. grind arith; zero_alone = λ e. grind arith }

pub starts_plain-decimal : (n : ℕ) → n < 2 ^ 64 → starts_plain (decimal n) ≡ true
starts_plain-decimal zero lt = rw (decimal_digit 0 (omega arith)) refl
starts_plain-decimal (suc n) lt =
    let low = first_decimal (suc n) (omega arith) lt in
    let high = digit_at (decimal (suc n)) 0 (digits_decimal own (suc n) lt) (decimal_nonempty (suc n) lt) in
    or_left _ _ (and_from _ _ (le-leb 49 (get_or (decimal (suc n)) 0 0) (omega arith)) (le-leb (get_or (decimal (suc n)) 0 0) 57 (omega arith)))

-- ---- unsigned numbers

pub unsigned_found : {E : Type 0} (k : ℕ) (text : List ℕ) (r : Result ℕ E) → 2 ^ k ≤ 2 ^ 64 → ParsesUnsigned k 10 text r → starts_plain text ≡ true → IfSome (result_ok r) (λ n. text ≡ decimal n)
unsigned_found {E} k text (Err e) wide h first = tt
unsigned_found {E} k text (Ok n) wide h first =
    let facts = plain text first in
    let p = parse_plain own {E = E} k text (Ok n) h facts.plus in
    let small : digits_value 10 text < 2 ^ 64 = omega (arith, p.0.2) in
    rw p.1 (sym (decimal-digits_value own text p.0.0 p.0.1 facts.zero_alone small))

pub unsigned_only : {E : Type 0} (k n : ℕ) (text : List ℕ) (r : Result ℕ E) → 2 ^ k ≤ 2 ^ 64 → ParsesUnsigned k 10 text r → n < 2 ^ k → text ≡ decimal n → result_ok r ≡ Some n
unsigned_only k n text r wide h lt e = ap result_ok (parse-decimal k n text r lt (omega arith) e h)

pub unsigned_none : (k n : ℕ) (text : List ℕ) → 2 ^ k ≤ 2 ^ 64 → starts_plain text ≡ false → n < 2 ^ k → text ≡ decimal n → ⊥
unsigned_none k n text wide other lt e = both_ways (starts_plain text) other (rw e (starts_plain-decimal n (omega arith)))

-- ---- signed numbers

-- the text of a number below 0
below_zero : (v : ℕ) (digits text : List ℕ) → decimal v ≡ digits → 0 < v → text ≡ 45 ∷ digits → text ≡ signed_decimal (neg_ℤ (pos v))
below_zero zero digits text e some is = absurd (omega arith)
below_zero (suc v) digits text e some is = rw e is

not_zero : (v : ℕ) (digits : List ℕ) → decimal v ≡ digits → 49 ≤ get_or digits 0 0 → 0 < v
not_zero zero digits e first =
    let zero-is : digits ≡ 48 ∷ [] = sym e ∙ decimal_digit 0 (omega arith) in
    let at : get_or digits 0 0 ≡ 48 = rw zero-is refl in
    absurd (omega arith)
not_zero (suc v) digits e first = omega arith

-- a minus, and a digit from 1 to 9
record IsBelowZero (text : List ℕ) : Type 0 where
  minus : get_or text 0 0 ≡ 45
  digit : 49 ≤ get_or (drop 1 text) 0 0
  whole : text ≡ 45 ∷ drop 1 text

is_below_zero : (text : List ℕ) → starts_with_minus text ≡ true → IsBelowZero text
is_below_zero [] h = absurd cc
is_below_zero (a ∷ []) h = absurd (grind arith)
is_below_zero (a ∷ b ∷ text) h =
    let minus : a ≡ 45 = grind arith in
    record { minus = minus; digit = grind arith; whole = rw minus refl }

pub signed_found : {E : Type 0} (text : List ℕ) (r : Result ℤ E) → ParsesSigned w16 10 text r → (starts_plain text || starts_with_minus text) ≡ true → IfSome (result_ok r) (λ z. text ≡ signed_decimal z)
signed_found {E} text (Err e) h first = tt
signed_found {E} text (Ok z) h first =
    elim (or_cases (starts_plain text) (starts_with_minus text) first) [
      | inl p ↦
          let facts = plain text p in
          let q = parse_signed_plain own {E = E} w16 text (Ok z) h facts.plus facts.minus in
          let small : digits_value 10 text < 2 ^ 64 = omega (arith, q.0.2) in
          rw q.1 (sym (decimal-digits_value own text q.0.0 q.0.1 facts.zero_alone small))
      | inr m ↦
          let facts = is_below_zero text m in
          let q = parse_signed_minus own {E = E} w16 text (Ok z) h facts.minus in
          let digits = drop 1 text in
          let small : digits_value 10 digits < 2 ^ 64 = omega (arith, q.0.2) in
          let one : decimal (digits_value 10 digits) ≡ digits = decimal-digits_value own digits q.0.0 q.0.1 (λ e. let d = facts.digit in absurd (omega arith)) small in
          rw q.1 (below_zero (digits_value 10 digits) digits text one (not_zero _ digits one facts.digit) facts.whole)
    ]

mag_small : (z : ℤ) → FitsSigned w16 z → mag z < 2 ^ 63
mag_small (pos n) fits = omega arith
mag_small (negsuc n) fits = omega arith

pub signed_only : {E : Type 0} (z : ℤ) (text : List ℕ) (r : Result ℤ E) → ParsesSigned w16 10 text r → FitsSigned w16 z → text ≡ signed_decimal z → result_ok r ≡ Some z
signed_only z text r h fits e = ap result_ok (parse-signed_decimal w16 z text r fits (mag_small z fits) e h)

starts_signed-signed_decimal : (z : ℤ) → mag z < 2 ^ 63 → (starts_plain (signed_decimal z) || starts_with_minus (signed_decimal z)) ≡ true
starts_signed-signed_decimal (pos n) lt = or_left _ _ (starts_plain-decimal n (omega arith))
starts_signed-signed_decimal (negsuc n) lt =
    let low = first_decimal (suc n) (omega arith) (omega arith) in
    let high = digit_at (decimal (suc n)) 0 (digits_decimal own (suc n) (omega arith)) (decimal_nonempty (suc n) (omega arith)) in
    let digit = get_or (decimal (suc n)) 0 0 in
    let minus : starts_with_minus (45 ∷ decimal (suc n)) ≡ true = and_from (nat_le 49 digit) (nat_le digit 57) (le-leb 49 digit (omega arith)) (le-leb digit 57 (omega arith)) in
    or_right (starts_plain (45 ∷ decimal (suc n))) (starts_with_minus (45 ∷ decimal (suc n))) minus

pub signed_none : (z : ℤ) (text : List ℕ) → (starts_plain text || starts_with_minus text) ≡ false → FitsSigned w16 z → text ≡ signed_decimal z → ⊥
signed_none z text other fits e = both_ways (starts_plain text || starts_with_minus text) other (rw e (starts_signed-signed_decimal z (mag_small z fits)))

-- ---- a decimal has one number, and no space

pub signed_injective : (y z : ℤ) → FitsSigned w16 y → FitsSigned w16 z → signed_decimal y ≡ signed_decimal z → y ≡ z
signed_injective y z fits_y fits_z e = signed_decimal_injective y z (mag_small y fits_y) (mag_small z fits_z) e

pub IsWord-decimal : (n : ℕ) → n < 2 ^ 64 → IsWord (decimal n)
IsWord-decimal n lt = word_from_bytes (decimal n) (λ i below e. let range = digit_at (decimal n) i (digits_decimal own n lt) below in absurd (omega arith))

pub IsWord-signed_decimal : (z : ℤ) → FitsSigned w16 z → IsWord (signed_decimal z)
IsWord-signed_decimal (pos n) fits = IsWord-decimal n (omega arith)
IsWord-signed_decimal (negsuc n) fits = behind_dash (decimal (suc n)) (IsWord-decimal (suc n) (omega arith))
