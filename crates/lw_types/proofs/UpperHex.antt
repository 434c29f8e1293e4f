-- Upper-case hex has one spelling: what its digits decode to is written as these digits again.
use Rattle.std.proofs.Common.{◌≡◌, ℕ, suc, ◌+◌, ◌*◌, ◌/◌, ◌%◌, ◌<◌, ◌==◌, Bool, true, false, not, ◌||◌, List, [], ◌∷◌, ◌++◌, length, get_or, take, ◌^◌, ◌-◌, slice_index, Option, Some, None, unwrap_or, Result, Ok, Err, refl, sym, ap, ◌∙◌, arith, inl, inr}
use Rattle.std.specs.List.{AllPass}
use Rattle.std.specs.Prelude.{IfSome}
use Rattle.std.specs.Fmt.{digit_glyph, digits, format_spec, padded_integral}
use Rattle.std.specs.Result.{result_ok, result_unwrap_or}
use Rattle.std.proofs.lemmas.Bool.{agree_below_at, or_cases, not-true, eqb-true, both_ways}
use Rattle.std.proofs.lemmas.Fmt.{hex_byte}
use Rattle.std.proofs.lemmas.List.{take_more}
use Rattle.std.proofs.lemmas.List.Elements.{All-cons, All-head, All-nil, All-tail}
use Rattle.hex.specs.Hex.{IsBytes, decode_of, decode_pairs, decode_sized, digit_or_error, encode_with, hex_digit_value, is_hex_digit, pair_value, upper_digits, value_at, ◌>>=◌}
use Rattle.hex.specs.declared.error.FromHexError.{FromHexError}
use Rattle.hex.proofs.HexLemmas.{decode_of-encode_upper, decode_of-digits, decode_of-even, decode_of-ok, decode_sized-ok, decode_sized-twice, length-encode_with}
use Rattle.lw_types.specs.Hex.{hex_text, is_upper_digit, IsHexText}

-- ---- one digit

-- the test of a digit, which computes: an upper-case digit is the one that its value is written as
abbrev is_written_back : ℕ → Bool
is_written_back c = not (is_upper_digit c) || (slice_index upper_digits (unwrap_or (hex_digit_value c) 0) == c)

below_71 : (c : ℕ) → is_upper_digit c ≡ true → c < 71
below_71 c h = grind arith

digit_back : (c v : ℕ) → is_upper_digit c ≡ true → hex_digit_value c ≡ Some v → slice_index upper_digits v ≡ c
digit_back c v upper is =
    let passes : is_written_back c ≡ true = agree_below_at is_written_back (λ _. true) 71 c refl (below_71 c upper) in
    elim (or_cases (not (is_upper_digit c)) (slice_index upper_digits (unwrap_or (hex_digit_value c) 0) == c) passes) [
      | inl lower ↦ absurd (both_ways (is_upper_digit c) (not-true (is_upper_digit c) lower) upper)
      | inr back ↦ ap (λ (o : Option ℕ). slice_index upper_digits (unwrap_or o 0)) (sym is) ∙ eqb-true _ _ back
    ]

digit_upper : (d : ℕ) → d < 16 → is_upper_digit (slice_index upper_digits d) ≡ true
digit_upper d lt = agree_below_at (λ k. is_upper_digit (slice_index upper_digits k)) (λ _. true) 16 d refl lt

digit_small : (c v : ℕ) → hex_digit_value c ≡ Some v → v < 16
digit_small c v h = grind arith

-- ---- pairs of digits

bind_ok : {A B : Type 0} (r : Result A FromHexError) (f : A → Result B FromHexError) (y : B) → (r >>= f) ≡ Ok y → (x : A) × (r ≡ Ok x) × (f x ≡ Ok y)
bind_ok (Ok x) f y h = (x, refl, h)
bind_ok (Err e) f y h = absurd cc

digit_read : (c i : ℕ) (o : Option ℕ) (v : ℕ) → digit_or_error c i o ≡ Ok v → o ≡ Some v
digit_read c i (Some w) v h = ap Some (ap (λ (r : Result ℕ FromHexError). result_unwrap_or r 0) h)
digit_read c i None v h = absurd cc

-- the text that decodes to some bytes is the text of these bytes
pairs_written : (i : ℕ) (text bytes : List ℕ) → AllPass is_upper_digit text → decode_pairs i text ≡ Ok bytes → text ≡ encode_with upper_digits bytes
unfolding decode_pairs encode_with
pairs_written i [] bytes upper h =
    let e : [] ≡ bytes = ap (λ (r : Result (List ℕ) FromHexError). result_unwrap_or r []) h in
    rw (← e) refl
pairs_written i (a ∷ []) bytes upper h = absurd cc
pairs_written i (a ∷ b ∷ text) bytes upper h =
    let pair = bind_ok (pair_value a b i) _ bytes h in
    let high = bind_ok (value_at a i) _ pair.0 pair.1 in
    let low = bind_ok (value_at b (i + 1)) _ pair.0 high.2 in
    let rest = bind_ok (decode_pairs (i + 2) text) _ bytes pair.2 in
    let after = All-tail (λ c. is_upper_digit c ≡ true) a (b ∷ text) upper in
    let a-is = digit_read a i (hex_digit_value a) high.0 high.1 in
    let b-is = digit_read b (i + 1) (hex_digit_value b) low.0 low.1 in
    let a-back = digit_back a high.0 (All-head (λ c. is_upper_digit c ≡ true) a (b ∷ text) upper) a-is in
    let b-back = digit_back b low.0 (All-head (λ c. is_upper_digit c ≡ true) b text after) b-is in
    let a-small = digit_small a high.0 a-is in
    let b-small = digit_small b low.0 b-is in
    let byte : high.0 * 16 + low.0 ≡ pair.0 = ap (λ (r : Result ℕ FromHexError). result_unwrap_or r 0) low.2 in
    let whole : pair.0 ∷ rest.0 ≡ bytes = ap (λ (r : Result (List ℕ) FromHexError). result_unwrap_or r []) rest.2 in
    let top : pair.0 / 16 ≡ high.0 = omega arith in
    let bottom : pair.0 % 16 ≡ low.0 = omega arith in
    let others = pairs_written (i + 2) text rest.0 (All-tail (λ c. is_upper_digit c ≡ true) b text after) rest.1 in
    rw (← whole, top, bottom, a-back, b-back, ← others) refl

-- a text that has only upper-case digits
upper_written : (bytes : List ℕ) → IsBytes bytes → AllPass is_upper_digit (encode_with upper_digits bytes)
unfolding encode_with
upper_written [] fits = All-nil (λ c. is_upper_digit c ≡ true)
upper_written (byte ∷ bytes) fits =
    let small : byte < 256 = fits 0 in
    let others = upper_written bytes (λ i. fits (suc i)) in
    let low = All-cons (λ c. is_upper_digit c ≡ true) (slice_index upper_digits (byte % 16)) (encode_with upper_digits bytes) (digit_upper (byte % 16) (omega arith)) others in
    All-cons (λ c. is_upper_digit c ≡ true) (slice_index upper_digits (byte / 16)) (slice_index upper_digits (byte % 16) ∷ encode_with upper_digits bytes) (digit_upper (byte / 16) (omega arith)) low

-- ---- whole texts

pub upper-hex_text : (bytes : List ℕ) → IsBytes bytes → AllPass is_upper_digit (hex_text bytes)
unfolding hex_text
upper-hex_text bytes fits = upper_written bytes fits

pub decode_of-hex_text : (bytes : List ℕ) → IsBytes bytes → decode_of (hex_text bytes) ≡ Ok bytes
unfolding hex_text
decode_of-hex_text bytes fits = decode_of-encode_upper bytes fits

pub length-hex_text : (bytes : List ℕ) → length (hex_text bytes) ≡ 2 * length bytes
unfolding hex_text
length-hex_text bytes = length-encode_with upper_digits bytes

-- what upper-case digits decode to has them as its text
pub written_back : (text bytes : List ℕ) → AllPass is_upper_digit text → decode_of text ≡ Ok bytes → text ≡ hex_text bytes
unfolding hex_text
written_back text bytes upper h =
    pairs_written 0 text bytes upper (sym (decode_of-even text (decode_of-ok text bytes h).0) ∙ h)

-- no two lists of bytes share a text
pub hex_text_injective : (a b : List ℕ) → IsBytes a → IsBytes b → hex_text a ≡ hex_text b → a ≡ b
hex_text_injective a b fits_a fits_b e =
    let both = sym (decode_of-hex_text a fits_a) ∙ ap decode_of e ∙ decode_of-hex_text b fits_b in
    ap (λ (r : Result (List ℕ) FromHexError). result_unwrap_or r []) both

-- the same, into an array
pub sized_back : (text bytes : List ℕ) (n : ℕ) → AllPass is_upper_digit text → decode_sized text n ≡ Ok bytes → text ≡ hex_text bytes
sized_back text bytes n upper h =
    let len = decode_sized-ok text n bytes h in
    written_back text bytes upper (sym (decode_sized-twice text n len) ∙ h)

pub decode_sized-hex_text : (bytes : List ℕ) (n : ℕ) → IsBytes bytes → length bytes ≡ n → decode_sized (hex_text bytes) n ≡ Ok bytes
decode_sized-hex_text bytes n fits len =
    decode_sized-twice (hex_text bytes) n (omega (arith, length-hex_text bytes, len)) ∙ decode_of-hex_text bytes fits

-- what an array's reading gives
abbrev pub IsArrayText : List ℕ → ℕ → List ℕ → Type 0
IsArrayText text n bytes = IsBytes bytes × (length bytes ≡ n) × (text ≡ hex_text bytes)

array_found : (text : List ℕ) (n : ℕ) (r : Result (List ℕ) FromHexError) → AllPass is_upper_digit text → decode_sized text n ≡ r → IfSome (result_ok r) (IsArrayText text n)
array_found text n (Ok bytes) upper h =
    let len = decode_sized-ok text n bytes h in
    let ok = decode_of-ok text bytes (sym (decode_sized-twice text n len) ∙ h) in
    (ok.3, omega (arith, len, ok.2), sized_back text bytes n upper h)
array_found text n (Err e) upper h = tt

pub read_array_found : (text : List ℕ) (n : ℕ) → AllPass is_upper_digit text → IfSome (result_ok (decode_sized text n)) (IsArrayText text n)
read_array_found text n upper = array_found text n (decode_sized text n) upper refl

is_hex : (c : ℕ) → is_upper_digit c ≡ true → is_hex_digit c ≡ true
is_hex c upper = grind arith

-- a text of an even number of upper-case digits is the text of some bytes; no other text is
pub hex_from_digits : (text : List ℕ) → length text % 2 ≡ 0 → AllPass is_upper_digit text → IsHexText text
hex_from_digits text even upper =
    let digits : AllPass is_hex_digit text = λ k d lt. is_hex (get_or text k d) (upper k d lt) in
    let found = decode_of-digits text even digits in
    (found.0, (decode_of-ok text found.0 found.1).3, written_back text found.0 upper found.1)

pub digits_from_hex : (text : List ℕ) → IsHexText text → (length text % 2 ≡ 0) × AllPass is_upper_digit text
digits_from_hex text h =
    rw h.2 (let len = length-hex_text h.0 in omega (arith, len), upper-hex_text h.0 h.1)

-- ---- writing

pub hex_text-nil : hex_text [] ≡ []
unfolding hex_text encode_with
hex_text-nil = refl

glyph_is : (d : ℕ) → d < 16 → digit_glyph true d ≡ slice_index upper_digits d
glyph_is d lt =
    let same : (digit_glyph true d == slice_index upper_digits d) ≡ true = agree_below_at (λ k. digit_glyph true k == slice_index upper_digits k) (λ _. true) 16 d refl lt in
    eqb-true _ _ same

-- the text of one byte more
written_push : (bytes : List ℕ) (byte : ℕ) → encode_with upper_digits (bytes ++ byte ∷ []) ≡ encode_with upper_digits bytes ++ slice_index upper_digits (byte / 16) ∷ slice_index upper_digits (byte % 16) ∷ []
unfolding encode_with
written_push [] byte = refl
written_push (first ∷ bytes) byte = rw (written_push bytes byte) refl

-- what `{:02X}` writes of a byte
abbrev pub shown_byte : ℕ → List ℕ
shown_byte byte = padded_integral (format_spec 32 0 4 2 (2 ^ 64 - 1)) false [] (digits 16 true byte)

pub hex_text-take_more : (bytes : List ℕ) (i : ℕ) → IsBytes bytes → i < length bytes → hex_text (take i bytes) ++ shown_byte (get_or bytes i 0) ≡ hex_text (take (i + 1) bytes)
unfolding hex_text
hex_text-take_more bytes i fits lt =
    let byte = get_or bytes i 0 in
    let small : get_or bytes i 0 < 256 = fits i in
    let shown : shown_byte byte ≡ slice_index upper_digits (byte / 16) ∷ slice_index upper_digits (byte % 16) ∷ [] =
    hex_byte true byte small ∙ rw (glyph_is (byte / 16) (omega arith), glyph_is (byte % 16) (omega arith)) refl in
    rw (shown, take_more bytes i 0 lt, written_push (take i bytes) byte) refl
