-- Lists of bytes: sums, and products of words.
use Rattle.std.proofs.Common.{◌≡◌, ℕ, zero, suc, ◌<◌, ◌≤◌, List, [], ◌∷◌, length, get_or, Bool, ◌&&◌, true, false, eqb, refl, sym, ap, ◌∙◌, arith, lit<}
use Rattle.std.proofs.lemmas.Bool.{and_parts, eqb-true}
use Rattle.std.proofs.lemmas.List.{same_lists, get_or_default}
use Rattle.std.specs.Int.Bits.{bit_xor, xor_assoc, xor_zero_r, xor_self}
use Rattle.aes128.specs.Field.{◌⊕◌, ◌•◌, terms_times, word_product}
use Rattle.aes128.specs.Cipher.{xor, column, state_of_columns, mixed_column}
use Rattle.aes128.proofs.FieldLemmas.{weights, at_weights, at_bytes, interchange, product-lt, product-xor, xor_byte, nine_times, eleven_times, thirteen_times, fourteen_times}
use Rattle.aes128.proofs.XorLemmas.{length-xor, xor-twice}

pub get_or-xor : (xs ys : List ℕ) (k : ℕ) → k < length xs → k < length ys → get_or (xor xs ys) k 0 ≡ get_or xs k 0 ⊕ get_or ys k 0
get_or-xor [] ys k in_xs in_ys = absurd (omega arith)
get_or-xor (x ∷ xs) [] k in_xs in_ys = absurd (omega arith)
get_or-xor (x ∷ xs) (y ∷ ys) zero in_xs in_ys = refl
get_or-xor (x ∷ xs) (y ∷ ys) (suc k) in_xs in_ys = get_or-xor xs ys k (omega arith) (omega arith)

pub xor_from_bytes : (s xs ys : List ℕ) → length s ≡ length xs → length xs ≤ length ys → ((k : ℕ) → k < length s → get_or s k 0 ≡ get_or xs k 0 ⊕ get_or ys k 0)
    → s ≡ xor xs ys
xor_from_bytes s xs ys same_length fits bytes =
    let len : length (xor xs ys) ≡ length xs = length-xor xs ys fits in
    same_lists s (xor xs ys) (omega arith) (λ k d h.
    get_or_default s k d 0 h ∙ bytes k h ∙ sym (get_or-xor xs ys k (omega arith) (omega arith)) ∙ get_or_default (xor xs ys) k 0 d (omega arith))

-- a list by its elements
pub tabulated : ℕ → (ℕ → ℕ) → List ℕ
tabulated zero f = []
tabulated (suc n) f = f zero ∷ tabulated n (λ k. f (suc k))

tabulated-get_or : (xs : List ℕ) → tabulated (length xs) (λ k. get_or xs k 0) ≡ xs
unfolding tabulated
tabulated-get_or [] = refl
tabulated-get_or (x ∷ xs) = ap (λ (l : List ℕ). x ∷ l) (tabulated-get_or xs)

pub word_cells : (w : List ℕ) → length w ≡ 4 → get_or w 0 0 ∷ get_or w 1 0 ∷ get_or w 2 0 ∷ get_or w 3 0 ∷ [] ≡ w
unfolding tabulated
word_cells w four = ap (λ (n : ℕ). tabulated n (λ k. get_or w k 0)) (sym four) ∙ tabulated-get_or w

pub state_columns : (s : List ℕ) → length s ≡ 16 → state_of_columns (λ c. column s c) ≡ s
unfolding tabulated
state_columns s sixteen = ap (λ (n : ℕ). tabulated n (λ k. get_or s k 0)) (sym sixteen) ∙ tabulated-get_or s

-- four bytes
pub record AreBytes (a b c d : ℕ) : Type 0 where
  pub first : a < 256
  pub second : b < 256
  pub third : c < 256
  pub fourth : d < 256

four_summands : (a b c d e f g h : ℕ) → (a ⊕ e) ⊕ (b ⊕ f) ⊕ (c ⊕ g) ⊕ (d ⊕ h) ≡ (a ⊕ b ⊕ c ⊕ d) ⊕ (e ⊕ f ⊕ g ⊕ h)
four_summands a b c d e f g h =
    ap (λ (n : ℕ). n ⊕ (c ⊕ g) ⊕ (d ⊕ h)) (interchange a e b f)
    ∙ ap (λ (n : ℕ). n ⊕ (d ⊕ h)) (interchange (a ⊕ b) (e ⊕ f) c g)
    ∙ interchange (a ⊕ b ⊕ c) (e ⊕ f ⊕ g) d h

-- one coefficient of a product of words
entry-xor : (p q r s a b c d e f g h : ℕ) → AreBytes a b c d → AreBytes e f g h
    → p • (a ⊕ e) ⊕ q • (b ⊕ f) ⊕ r • (c ⊕ g) ⊕ s • (d ⊕ h) ≡ (p • a ⊕ q • b ⊕ r • c ⊕ s • d) ⊕ (p • e ⊕ q • f ⊕ r • g ⊕ s • h)
entry-xor p q r s a b c d e f g h v w =
    rw (product-xor p a e v.first w.first, product-xor q b f v.second w.second, product-xor r c g v.third w.third, product-xor s d h v.fourth w.fourth)
    (four_summands (p • a) (q • b) (r • c) (s • d) (p • e) (q • f) (r • g) (s • h))

pub entry-lt : (p q r s a b c d : ℕ) → AreBytes a b c d → p • a ⊕ q • b ⊕ r • c ⊕ s • d < 256
entry-lt p q r s a b c d v =
    xor_byte _ _ (xor_byte _ _ (xor_byte _ _ (product-lt p a v.first) (product-lt q b v.second)) (product-lt r c v.third)) (product-lt s d v.fourth)

pub word_product-xor : (p : List ℕ) (a b c d e f g h : ℕ) → AreBytes a b c d → AreBytes e f g h
    → word_product p ((a ⊕ e) ∷ (b ⊕ f) ∷ (c ⊕ g) ∷ (d ⊕ h) ∷ []) ≡ xor (word_product p (a ∷ b ∷ c ∷ d ∷ [])) (word_product p (e ∷ f ∷ g ∷ h ∷ []))
word_product-xor p a b c d e f g h v w =
    let p0 = get_or p 0 0 in
    let p1 = get_or p 1 0 in
    let p2 = get_or p 2 0 in
    let p3 = get_or p 3 0 in
    rw (
      entry-xor p0 p3 p2 p1 a b c d e f g h v w,
      entry-xor p1 p0 p3 p2 a b c d e f g h v w,
      entry-xor p2 p1 p0 p3 a b c d e f g h v w,
      entry-xor p3 p2 p1 p0 a b c d e f g h v w,
    ) refl

-- a product with q and then with p
abbrev pub twice : List ℕ → List ℕ → ℕ → ℕ → ℕ → ℕ → List ℕ
twice p q a b c d = word_product p (word_product q (a ∷ b ∷ c ∷ d ∷ []))

twice-xor : (p q : List ℕ) (a b c d e f g h : ℕ) → AreBytes a b c d → AreBytes e f g h
    → twice p q (a ⊕ e) (b ⊕ f) (c ⊕ g) (d ⊕ h) ≡ xor (twice p q a b c d) (twice p q e f g h)
twice-xor p q a b c d e f g h v w =
    let q0 = get_or q 0 0 in
    let q1 = get_or q 1 0 in
    let q2 = get_or q 2 0 in
    let q3 = get_or q 3 0 in
    let bytes = λ (a : ℕ) (b : ℕ) (c : ℕ) (d : ℕ) (v : AreBytes a b c d). entry-lt q0 q3 q2 q1 a b c d v in
    ap (word_product p) (word_product-xor q a b c d e f g h v w)
    ∙ word_product-xor p _ _ _ _ _ _ _ _
    (record { first = entry-lt q0 q3 q2 q1 a b c d v; second = entry-lt q1 q0 q3 q2 a b c d v; third = entry-lt q2 q1 q0 q3 a b c d v; fourth = entry-lt q3 q2 q1 q0 a b c d v })
    (record { first = entry-lt q0 q3 q2 q1 e f g h w; second = entry-lt q1 q0 q3 q2 e f g h w; third = entry-lt q2 q1 q0 q3 e f g h w; fourth = entry-lt q3 q2 q1 q0 e f g h w })

unfoldable pub same : List ℕ → List ℕ → Bool
same [] [] = true
same [] (y ∷ ys) = false
same (x ∷ xs) [] = false
same (x ∷ xs) (y ∷ ys) = eqb x y && same xs ys

pub same-true : (xs ys : List ℕ) → same xs ys ≡ true → xs ≡ ys
unfolding same
same-true [] [] h = refl
same-true [] (y ∷ ys) h = cc
same-true (x ∷ xs) [] h = cc
same-true (x ∷ xs) (y ∷ ys) h =
    let both = and_parts (eqb x y) (same xs ys) h in
    let heads : x ≡ y = eqb-true x y both.0 in
    let tails : xs ≡ ys = same-true xs ys both.1 in
    cc

-- the product with p undoes the product with q at a word of one byte
undoes_unit : List ℕ → List ℕ → ℕ → Bool
undoes_unit p q x =
    (same (twice p q x 0 0 0) (x ∷ 0 ∷ 0 ∷ 0 ∷ []) && same (twice p q 0 x 0 0) (0 ∷ x ∷ 0 ∷ 0 ∷ []))
    && (same (twice p q 0 0 x 0) (0 ∷ 0 ∷ x ∷ 0 ∷ []) && same (twice p q 0 0 0 x) (0 ∷ 0 ∷ 0 ∷ x ∷ []))

-- the same, as equations
record UndoneAt (p q : List ℕ) (x : ℕ) : Type 0 where
  first : twice p q x 0 0 0 ≡ x ∷ 0 ∷ 0 ∷ 0 ∷ []
  second : twice p q 0 x 0 0 ≡ 0 ∷ x ∷ 0 ∷ 0 ∷ []
  third : twice p q 0 0 x 0 ≡ 0 ∷ 0 ∷ x ∷ 0 ∷ []
  fourth : twice p q 0 0 0 x ≡ 0 ∷ 0 ∷ 0 ∷ x ∷ []

undone_unit : (p q : List ℕ) (x : ℕ) → undoes_unit p q x ≡ true → UndoneAt p q x
unfolding undoes_unit
undone_unit p q x test =
    let halves = and_parts _ _ test in
    let front = and_parts _ _ halves.0 in
    let back = and_parts _ _ halves.1 in
    record { first = same-true _ _ front.0; second = same-true _ _ front.1; third = same-true _ _ back.0; fourth = same-true _ _ back.1 }

byte_0 : 0 < 256
byte_0 = lit< tt

only_first : (x : ℕ) → x < 256 → AreBytes x 0 0 0
only_first x low = record { first = low; second = byte_0; third = byte_0; fourth = byte_0 }

only_second : (x : ℕ) → x < 256 → AreBytes 0 x 0 0
only_second x low = record { first = byte_0; second = low; third = byte_0; fourth = byte_0 }

only_third : (x : ℕ) → x < 256 → AreBytes 0 0 x 0
only_third x low = record { first = byte_0; second = byte_0; third = low; fourth = byte_0 }

only_fourth : (x : ℕ) → x < 256 → AreBytes 0 0 0 x
only_fourth x low = record { first = byte_0; second = byte_0; third = byte_0; fourth = low }

-- products are linear, so it undoes the product at a sum of bytes too
undone-sum : (p q : List ℕ) (x y : ℕ) → x < 256 → y < 256 → UndoneAt p q x → UndoneAt p q y → UndoneAt p q (x ⊕ y)
undone-sum p q x y x_low y_low at_x at_y =
    let both = λ (f g k l : List ℕ) (left : f ≡ g) (right : k ≡ l). ap (λ (n : List ℕ). xor n k) left ∙ ap (xor g) right in
    record {
      first = twice-xor p q x 0 0 0 y 0 0 0 (only_first x x_low) (only_first y y_low) ∙ both _ _ _ _ at_x.first at_y.first;
      second = twice-xor p q 0 x 0 0 0 y 0 0 (only_second x x_low) (only_second y y_low) ∙ both _ _ _ _ at_x.second at_y.second;
      third = twice-xor p q 0 0 x 0 0 0 y 0 (only_third x x_low) (only_third y y_low) ∙ both _ _ _ _ at_x.third at_y.third;
      fourth = twice-xor p q 0 0 0 x 0 0 0 y (only_fourth x x_low) (only_fourth y y_low) ∙ both _ _ _ _ at_x.fourth at_y.fourth;
    }

undone_byte : (p q : List ℕ) → at_weights (undoes_unit p q) weights ≡ true → (b : ℕ) → b < 256 → UndoneAt p q b
undone_byte p q test = at_bytes (UndoneAt p q) (undone-sum p q) (undoes_unit p q) (undone_unit p q) test

-- then it undoes it at every word
undone : (p q : List ℕ) → at_weights (undoes_unit p q) weights ≡ true → (a b c d : ℕ) → AreBytes a b c d → twice p q a b c d ≡ a ∷ b ∷ c ∷ d ∷ []
undone p q test a b c d v =
    let at_b = undone_byte p q test b v.second in
    let at_c = undone_byte p q test c v.third in
    let at_d = undone_byte p q test d v.fourth in
    let z = byte_0 in
    let one_a : twice p q a 0 0 0 ≡ a ∷ 0 ∷ 0 ∷ 0 ∷ [] = (undone_byte p q test a v.first).first in
    let one_b : twice p q 0 b 0 0 ≡ 0 ∷ b ∷ 0 ∷ 0 ∷ [] = at_b.second in
    let one_c : twice p q 0 0 c 0 ≡ 0 ∷ 0 ∷ c ∷ 0 ∷ [] = at_c.third in
    let one_d : twice p q 0 0 0 d ≡ 0 ∷ 0 ∷ 0 ∷ d ∷ [] = at_d.fourth in
    let a_alone = only_first a v.first in
    let b_alone = only_second b v.second in
    let c_alone = only_third c v.third in
    let d_alone = only_fourth d v.fourth in
    let front_2 : AreBytes a b 0 0 = record { first = v.first; second = v.second; third = z; fourth = z } in
    let front_3 : AreBytes a b c 0 = record { first = v.first; second = v.second; third = v.third; fourth = z } in
    let two : twice p q a b 0 0 ≡ a ∷ b ∷ 0 ∷ 0 ∷ [] =
    simp xor_zero_r at (twice-xor p q a 0 0 0 0 b 0 0 a_alone b_alone ∙ ap (λ (l : List ℕ). xor l (twice p q 0 b 0 0)) one_a ∙ ap (xor (a ∷ 0 ∷ 0 ∷ 0 ∷ [])) one_b) in
    let three : twice p q a b c 0 ≡ a ∷ b ∷ c ∷ 0 ∷ [] =
    simp xor_zero_r at (twice-xor p q a b 0 0 0 0 c 0 front_2 c_alone ∙ ap (λ (l : List ℕ). xor l (twice p q 0 0 c 0)) two ∙ ap (xor (a ∷ b ∷ 0 ∷ 0 ∷ [])) one_c) in
    simp xor_zero_r at (twice-xor p q a b c 0 0 0 0 d front_3 d_alone ∙ ap (λ (l : List ℕ). xor l (twice p q 0 0 0 d)) three ∙ ap (xor (a ∷ b ∷ c ∷ 0 ∷ [])) one_d)

-- the coefficients of InvMixColumns: 11 y^3 + 13 y^2 + 9 y + 14
abbrev pub unmixing : List ℕ
unmixing = 14 ∷ 9 ∷ 13 ∷ 11 ∷ []

pub mixed-unmixed : (a b c d : ℕ) → AreBytes a b c d → mixed_column (word_product unmixing (a ∷ b ∷ c ∷ d ∷ [])) ≡ a ∷ b ∷ c ∷ d ∷ []
unfolding at_weights undoes_unit same ◌•◌ terms_times
mixed-unmixed a b c d v = undone (2 ∷ 1 ∷ 1 ∷ 3 ∷ []) unmixing refl a b c d v

pub unmixed-mixed : (a b c d : ℕ) → AreBytes a b c d → word_product unmixing (mixed_column (a ∷ b ∷ c ∷ d ∷ [])) ≡ a ∷ b ∷ c ∷ d ∷ []
unfolding at_weights undoes_unit same ◌•◌ terms_times
unmixed-mixed a b c d v = undone unmixing (2 ∷ 1 ∷ 1 ∷ 3 ∷ []) refl a b c d v

-- the products of a byte that `unmixed` sums
pub multiples_by_doubling : (b two four eight : ℕ) → b < 256 → two ≡ 2 • b → four ≡ 2 • two → eight ≡ 2 • four
    → (eight ⊕ b) ∷ (eight ⊕ two ⊕ b) ∷ (eight ⊕ four ⊕ b) ∷ (eight ⊕ four ⊕ two) ∷ [] ≡ (9 • b) ∷ (11 • b) ∷ (13 • b) ∷ (14 • b) ∷ []
multiples_by_doubling b two four eight byte is_two is_four is_eight =
    rw (nine_times b byte, eleven_times b byte, thirteen_times b byte, fourteen_times b byte, is_eight, is_four, is_two) refl
