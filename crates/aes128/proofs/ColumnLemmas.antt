-- SubBytes and MixColumns of a column, by a table of words.
use Rattle.std.proofs.Common.{◌≡◌, ℕ, ◌/◌, ◌%◌, ◌^◌, ◌<◌, Bool, ◌&&◌, true, List, [], ◌∷◌, get_or, refl, sym, ap, ◌∙◌, lit<}
use Rattle.std.proofs.lemmas.Nat.{xor_shr, xor_mod}
use Rattle.std.specs.Int.{w32, rotate_left, to_le_bytes}
use Rattle.std.specs.Int.Bits.{xor_zero_r}
use Rattle.aes128.specs.declared.substitution.TheConstants.{S_BOX, MIXED_S_BOX}
use Rattle.aes128.specs.Field.{◌⊕◌, ◌•◌, terms_times}
use Rattle.aes128.specs.Cipher.{xor, s_box, mixed_column}
use Rattle.aes128.proofs.Below.{all_below, all_below-at}
use Rattle.aes128.proofs.SBoxLemmas.{table-s_box, s_box-lt}
use Rattle.aes128.proofs.WordLemmas.{AreBytes, same, same-true, word_product-xor}
use Rattle.std.proofs.lemmas.Bool.{and_parts}

byte-xor : (x y k : ℕ) → (x ⊕ y) / 2 ^ k % 2 ^ 8 ≡ (x / 2 ^ k % 2 ^ 8) ⊕ (y / 2 ^ k % 2 ^ 8)
byte-xor x y k = ap (λ (n : ℕ). n % 2 ^ 8) (xor_shr x y k) ∙ xor_mod (x / 2 ^ k) (y / 2 ^ k) 8

pub to_le_bytes-xor : (x y : ℕ) → to_le_bytes w32 (x ⊕ y) ≡ xor (to_le_bytes w32 x) (to_le_bytes w32 y)
to_le_bytes-xor x y = rw (xor_mod x y 8, byte-xor x y 8, byte-xor x y 16, byte-xor x y 24) refl

-- the table's word of a byte, turned to each of the four rows
row : ℕ → ℕ → List ℕ
row b turn = to_le_bytes w32 (rotate_left w32 (get_or MIXED_S_BOX b 0) turn)

rows_fit : ℕ → Bool
rows_fit b =
    let s = get_or S_BOX b 0 in
    (same (to_le_bytes w32 (get_or MIXED_S_BOX b 0)) (mixed_column (s ∷ 0 ∷ 0 ∷ 0 ∷ [])) && same (row b 8) (mixed_column (0 ∷ s ∷ 0 ∷ 0 ∷ [])))
    && (same (row b 16) (mixed_column (0 ∷ 0 ∷ s ∷ 0 ∷ [])) && same (row b 24) (mixed_column (0 ∷ 0 ∷ 0 ∷ s ∷ [])))

each_row_fits : all_below rows_fit 256 ≡ true
unfolding all_below rows_fit row same ◌•◌ terms_times
each_row_fits = refl

row_fits : (b : ℕ) → b < 256 → rows_fit b ≡ true
row_fits b byte = all_below-at rows_fit 256 each_row_fits b byte

first_row : (b : ℕ) → b < 256 → to_le_bytes w32 (get_or MIXED_S_BOX b 0) ≡ mixed_column (s_box b ∷ 0 ∷ 0 ∷ 0 ∷ [])
unfolding rows_fit
first_row b byte =
    same-true _ _ (and_parts _ _ (and_parts _ _ (row_fits b byte)).0).0 ∙ ap (λ (s : ℕ). mixed_column (s ∷ 0 ∷ 0 ∷ 0 ∷ [])) (table-s_box b byte)

second_row : (b : ℕ) → b < 256 → row b 8 ≡ mixed_column (0 ∷ s_box b ∷ 0 ∷ 0 ∷ [])
unfolding rows_fit
second_row b byte =
    same-true _ _ (and_parts _ _ (and_parts _ _ (row_fits b byte)).0).1 ∙ ap (λ (s : ℕ). mixed_column (0 ∷ s ∷ 0 ∷ 0 ∷ [])) (table-s_box b byte)

third_row : (b : ℕ) → b < 256 → row b 16 ≡ mixed_column (0 ∷ 0 ∷ s_box b ∷ 0 ∷ [])
unfolding rows_fit
third_row b byte =
    same-true _ _ (and_parts _ _ (and_parts _ _ (row_fits b byte)).1).0 ∙ ap (λ (s : ℕ). mixed_column (0 ∷ 0 ∷ s ∷ 0 ∷ [])) (table-s_box b byte)

fourth_row : (b : ℕ) → b < 256 → row b 24 ≡ mixed_column (0 ∷ 0 ∷ 0 ∷ s_box b ∷ [])
unfolding rows_fit
fourth_row b byte =
    same-true _ _ (and_parts _ _ (and_parts _ _ (row_fits b byte)).1).1 ∙ ap (λ (s : ℕ). mixed_column (0 ∷ 0 ∷ 0 ∷ s ∷ [])) (table-s_box b byte)

-- a column is the sum of its bytes in their rows
mixed_column-rows : (a b c d : ℕ) → AreBytes a b c d
    → xor (xor (xor (mixed_column (a ∷ 0 ∷ 0 ∷ 0 ∷ [])) (mixed_column (0 ∷ b ∷ 0 ∷ 0 ∷ []))) (mixed_column (0 ∷ 0 ∷ c ∷ 0 ∷ []))) (mixed_column (0 ∷ 0 ∷ 0 ∷ d ∷ []))
    ≡ mixed_column (a ∷ b ∷ c ∷ d ∷ [])
mixed_column-rows a b c d v =
    let p : List ℕ = 2 ∷ 1 ∷ 1 ∷ 3 ∷ [] in
    let z : 0 < 256 = lit< tt in
    let a_alone : AreBytes a 0 0 0 = record { first = v.first; second = z; third = z; fourth = z } in
    let b_alone : AreBytes 0 b 0 0 = record { first = z; second = v.second; third = z; fourth = z } in
    let c_alone : AreBytes 0 0 c 0 = record { first = z; second = z; third = v.third; fourth = z } in
    let d_alone : AreBytes 0 0 0 d = record { first = z; second = z; third = z; fourth = v.fourth } in
    let front_2 : AreBytes a b 0 0 = record { first = v.first; second = v.second; third = z; fourth = z } in
    let front_3 : AreBytes a b c 0 = record { first = v.first; second = v.second; third = v.third; fourth = z } in
    let two : mixed_column (a ∷ b ∷ 0 ∷ 0 ∷ []) ≡ xor (mixed_column (a ∷ 0 ∷ 0 ∷ 0 ∷ [])) (mixed_column (0 ∷ b ∷ 0 ∷ 0 ∷ [])) =
    ap (λ (n : ℕ). mixed_column (n ∷ b ∷ 0 ∷ 0 ∷ [])) (sym (xor_zero_r a)) ∙ word_product-xor p a 0 0 0 0 b 0 0 a_alone b_alone in
    let three : mixed_column (a ∷ b ∷ c ∷ 0 ∷ []) ≡ xor (mixed_column (a ∷ b ∷ 0 ∷ 0 ∷ [])) (mixed_column (0 ∷ 0 ∷ c ∷ 0 ∷ [])) =
    ap (λ (n : ℕ). mixed_column (n ∷ b ∷ c ∷ 0 ∷ [])) (sym (xor_zero_r a)) ∙ ap (λ (n : ℕ). mixed_column ((a ⊕ 0) ∷ n ∷ c ∷ 0 ∷ [])) (sym (xor_zero_r b))
    ∙ word_product-xor p a b 0 0 0 0 c 0 front_2 c_alone in
    let four : mixed_column (a ∷ b ∷ c ∷ d ∷ []) ≡ xor (mixed_column (a ∷ b ∷ c ∷ 0 ∷ [])) (mixed_column (0 ∷ 0 ∷ 0 ∷ d ∷ [])) =
    ap (λ (n : ℕ). mixed_column (n ∷ b ∷ c ∷ d ∷ [])) (sym (xor_zero_r a)) ∙ ap (λ (n : ℕ). mixed_column ((a ⊕ 0) ∷ n ∷ c ∷ d ∷ [])) (sym (xor_zero_r b))
    ∙ ap (λ (n : ℕ). mixed_column ((a ⊕ 0) ∷ (b ⊕ 0) ∷ n ∷ d ∷ [])) (sym (xor_zero_r c))
    ∙ word_product-xor p a b c 0 0 0 0 d front_3 d_alone in
    sym (four ∙ ap (λ (w : List ℕ). xor w (mixed_column (0 ∷ 0 ∷ 0 ∷ d ∷ []))) (three ∙ ap (λ (w : List ℕ). xor w (mixed_column (0 ∷ 0 ∷ c ∷ 0 ∷ []))) two))

pub mixed_by_table : (a b c d x y z : ℕ) → AreBytes a b c d → x ≡ rotate_left w32 (get_or MIXED_S_BOX b 0) 8 → y ≡ rotate_left w32 (get_or MIXED_S_BOX c 0) 16
    → z ≡ rotate_left w32 (get_or MIXED_S_BOX d 0) 24
    → to_le_bytes w32 (get_or MIXED_S_BOX a 0 ⊕ x ⊕ y ⊕ z) ≡ mixed_column (s_box a ∷ s_box b ∷ s_box c ∷ s_box d ∷ [])
unfolding row
mixed_by_table a b c d x y z v is_x is_y is_z =
    let w : ℕ = get_or MIXED_S_BOX a 0 in
    let at_x : to_le_bytes w32 x ≡ mixed_column (0 ∷ s_box b ∷ 0 ∷ 0 ∷ []) = ap (λ (n : ℕ). to_le_bytes w32 n) is_x ∙ second_row b v.second in
    let at_y : to_le_bytes w32 y ≡ mixed_column (0 ∷ 0 ∷ s_box c ∷ 0 ∷ []) = ap (λ (n : ℕ). to_le_bytes w32 n) is_y ∙ third_row c v.third in
    let at_z : to_le_bytes w32 z ≡ mixed_column (0 ∷ 0 ∷ 0 ∷ s_box d ∷ []) = ap (λ (n : ℕ). to_le_bytes w32 n) is_z ∙ fourth_row d v.fourth in
    let substituted : AreBytes (s_box a) (s_box b) (s_box c) (s_box d) =
    record { first = s_box-lt a v.first; second = s_box-lt b v.second; third = s_box-lt c v.third; fourth = s_box-lt d v.fourth } in
    to_le_bytes-xor (w ⊕ x ⊕ y) z
    ∙ ap (λ (l : List ℕ). xor l (to_le_bytes w32 z)) (to_le_bytes-xor (w ⊕ x) y ∙ ap (λ (l : List ℕ). xor l (to_le_bytes w32 y)) (to_le_bytes-xor w x))
    ∙ ap (λ (l : List ℕ). xor (xor (xor (to_le_bytes w32 w) (to_le_bytes w32 x)) (to_le_bytes w32 y)) l) at_z
    ∙ ap (λ (l : List ℕ). xor (xor (xor (to_le_bytes w32 w) (to_le_bytes w32 x)) l) (mixed_column (0 ∷ 0 ∷ 0 ∷ s_box d ∷ []))) at_y
    ∙ ap (λ (l : List ℕ). xor (xor (xor (to_le_bytes w32 w) l) (mixed_column (0 ∷ 0 ∷ s_box c ∷ 0 ∷ []))) (mixed_column (0 ∷ 0 ∷ 0 ∷ s_box d ∷ []))) at_x
    ∙ ap (λ (l : List ℕ). xor (xor (xor l (mixed_column (0 ∷ s_box b ∷ 0 ∷ 0 ∷ []))) (mixed_column (0 ∷ 0 ∷ s_box c ∷ 0 ∷ []))) (mixed_column (0 ∷ 0 ∷ 0 ∷ s_box d ∷ []))) (first_row a v.first)
    ∙ mixed_column-rows (s_box a) (s_box b) (s_box c) (s_box d) substituted
