-- States stay blocks, and each step of the cipher can be undone.
use Rattle.std.proofs.Common.{◌≡◌, ℕ, zero, suc, ◌<◌, ◌≤◌, List, [], ◌∷◌, ◌++◌, map, length, get_or, refl, sym, ap, ◌∙◌, arith, lit<, inl, inr}
use Rattle.std.specs.Prelude.{All}
use Rattle.std.proofs.lemmas.Bool.{cases_lt}
use Rattle.std.proofs.lemmas.List.{get_or_past}
use Rattle.std.proofs.lemmas.List.Elements.{All-nil, All-cons, All-head, All-tail, All-append, All-get_or}
use Rattle.aes128.specs.declared.substitution.TheConstants.{INVERSE_S_BOX}
use Rattle.aes128.specs.Field.{◌⊕◌, power, word_product}
use Rattle.aes128.specs.Cipher.{IsBlock, xor, column, state_byte, s_box, sub_bytes, shifted_column, shift_rows, mixed_column, mix_columns, rot_word, next_round_key, round_key, rounds, ciphertext}
use Rattle.aes128.proofs.FieldLemmas.{xor_byte, product-lt}
use Rattle.aes128.proofs.SBoxLemmas.{any_s_box-lt, s_box-lt, inverse-s_box}
use Rattle.aes128.proofs.WordLemmas.{AreBytes, entry-lt, state_columns, unmixing, unmixed-mixed}
use Rattle.aes128.proofs.StateLemmas.{joined, joined-same, unshifted}
use Rattle.lw_types.specs.Values.{IsByte}
use Rattle.aes128.proofs.XorLemmas.{length-xor, xor-twice}

pub block_byte : (s : List ℕ) → IsBlock s → (k : ℕ) → get_or s k 0 < 256
block_byte s block k =
    elim (cases_lt k (length s)) [
      | inl inside ↦ All-get_or IsByte s k 0 inside block.1
      | inr past ↦ rw (get_or_past s k 0 past) (lit< tt)
    ]

pub column_bytes : (s : List ℕ) → IsBlock s → (c : ℕ) → AreBytes (state_byte s 0 c) (state_byte s 1 c) (state_byte s 2 c) (state_byte s 3 c)
column_bytes s block c = record { first = block_byte s block _; second = block_byte s block _; third = block_byte s block _; fourth = block_byte s block _ }

pub word_bytes : (a b c d : ℕ) → AreBytes a b c d → All IsByte (a ∷ b ∷ c ∷ d ∷ [])
word_bytes a b c d v =
    All-cons IsByte a (b ∷ c ∷ d ∷ []) v.first (All-cons IsByte b (c ∷ d ∷ []) v.second (All-cons IsByte c (d ∷ []) v.third (All-cons IsByte d [] v.fourth (All-nil IsByte))))

pub four_words : (a b c d : List ℕ) → All IsByte a → All IsByte b → All IsByte c → All IsByte d → All IsByte (a ++ (b ++ (c ++ d)))
four_words a b c d p q r s = All-append IsByte a (b ++ (c ++ d)) p (All-append IsByte b (c ++ d) q (All-append IsByte c d r s))

pub xor_bytes : (xs ys : List ℕ) → All IsByte xs → All IsByte ys → All IsByte (xor xs ys)
xor_bytes [] ys p q = All-nil IsByte
xor_bytes (x ∷ xs) [] p q = All-nil IsByte
xor_bytes (x ∷ xs) (y ∷ ys) p q =
    All-cons IsByte (x ⊕ y) (xor xs ys) (xor_byte x y (All-head IsByte x xs p) (All-head IsByte y ys q)) (xor_bytes xs ys (All-tail IsByte x xs p) (All-tail IsByte y ys q))

pub xor_block : (s k : List ℕ) → IsBlock s → IsBlock k → IsBlock (xor s k)
xor_block s k is_s is_k =
    let size : length s ≤ length k = omega (arith, is_s.0, is_k.0) in
    (length-xor s k size ∙ is_s.0, xor_bytes s k is_s.1 is_k.1)

sub_word : (a b c d : ℕ) → AreBytes a b c d → AreBytes (s_box a) (s_box b) (s_box c) (s_box d)
sub_word a b c d v = record { first = s_box-lt a v.first; second = s_box-lt b v.second; third = s_box-lt c v.third; fourth = s_box-lt d v.fourth }

sub_column : (s : List ℕ) → IsBlock s → (c : ℕ) → All IsByte (map s_box (column s c))
sub_column s block c = word_bytes _ _ _ _ (sub_word _ _ _ _ (column_bytes s block c))

pub sub_block : (s : List ℕ) → IsBlock s → IsBlock (sub_bytes s)
sub_block s block = (refl, four_words (map s_box (column s 0)) (map s_box (column s 1)) (map s_box (column s 2)) (map s_box (column s 3)) (sub_column s block 0) (sub_column s block 1) (sub_column s block 2) (sub_column s block 3))

shift_column : (s : List ℕ) → IsBlock s → (c : ℕ) → All IsByte (shifted_column s c)
shift_column s block c = word_bytes _ _ _ _ (record { first = block_byte s block _; second = block_byte s block _; third = block_byte s block _; fourth = block_byte s block _ })

pub shift_block : (s : List ℕ) → IsBlock s → IsBlock (shift_rows s)
shift_block s block = (refl, four_words (shifted_column s 0) (shifted_column s 1) (shifted_column s 2) (shifted_column s 3) (shift_column s block 0) (shift_column s block 1) (shift_column s block 2) (shift_column s block 3))

pub product_bytes : (p : List ℕ) (a b c d : ℕ) → AreBytes a b c d → All IsByte (word_product p (a ∷ b ∷ c ∷ d ∷ []))
product_bytes p a b c d v =
    let p0 = get_or p 0 0 in
    let p1 = get_or p 1 0 in
    let p2 = get_or p 2 0 in
    let p3 = get_or p 3 0 in
    word_bytes _ _ _ _ (record { first = entry-lt p0 p3 p2 p1 a b c d v; second = entry-lt p1 p0 p3 p2 a b c d v; third = entry-lt p2 p1 p0 p3 a b c d v; fourth = entry-lt p3 p2 p1 p0 a b c d v })

mix_column : (s : List ℕ) → IsBlock s → (c : ℕ) → All IsByte (mixed_column (column s c))
mix_column s block c = product_bytes (2 ∷ 1 ∷ 1 ∷ 3 ∷ []) _ _ _ _ (column_bytes s block c)

pub mix_block : (s : List ℕ) → IsBlock s → IsBlock (mix_columns s)
mix_block s block = (refl, four_words (mixed_column (column s 0)) (mixed_column (column s 1)) (mixed_column (column s 2)) (mixed_column (column s 3)) (mix_column s block 0) (mix_column s block 1) (mix_column s block 2) (mix_column s block 3))

power-lt : (r : ℕ) → power 2 r < 256
unfolding power
power-lt zero = lit< tt
power-lt (suc r) = product-lt 2 (power 2 r) (power-lt r)

next_block : (k : List ℕ) (constant : ℕ) → IsBlock k → constant < 256 → IsBlock (next_round_key constant k)
next_block k constant block byte =
    let z : 0 < 256 = lit< tt in
    let turned : AreBytes (state_byte k 1 3) (state_byte k 2 3) (state_byte k 3 3) (state_byte k 0 3) =
    record { first = block_byte k block _; second = block_byte k block _; third = block_byte k block _; fourth = block_byte k block _ } in
    let words = λ (c : ℕ). word_bytes (state_byte k 0 c) (state_byte k 1 c) (state_byte k 2 c) (state_byte k 3 c) (column_bytes k block c) in
    let t : List ℕ = xor (map s_box (rot_word (column k 3))) (constant ∷ 0 ∷ 0 ∷ 0 ∷ []) in
    let w0 : List ℕ = xor (column k 0) t in
    let w1 : List ℕ = xor (column k 1) w0 in
    let w2 : List ℕ = xor (column k 2) w1 in
    let w3 : List ℕ = xor (column k 3) w2 in
    let t_bytes : All IsByte t =
    xor_bytes (map s_box (rot_word (column k 3))) (constant ∷ 0 ∷ 0 ∷ 0 ∷ [])
    (word_bytes _ _ _ _ (sub_word _ _ _ _ turned)) (word_bytes constant 0 0 0 (record { first = byte; second = z; third = z; fourth = z })) in
    let w0_bytes : All IsByte w0 = xor_bytes (column k 0) t (words 0) t_bytes in
    let w1_bytes : All IsByte w1 = xor_bytes (column k 1) w0 (words 1) w0_bytes in
    let w2_bytes : All IsByte w2 = xor_bytes (column k 2) w1 (words 2) w1_bytes in
    let w3_bytes : All IsByte w3 = xor_bytes (column k 3) w2 (words 3) w2_bytes in
    (refl, four_words w0 w1 w2 w3 w0_bytes w1_bytes w2_bytes w3_bytes)

pub round_key-block : (key : List ℕ) → IsBlock key → (r : ℕ) → IsBlock (round_key key r)
unfolding round_key
round_key-block key block zero = block
round_key-block key block (suc r) = next_block (round_key key r) (power 2 r) (round_key-block key block r) (power-lt r)

shifted_block : (s : List ℕ) → IsBlock s → IsBlock (shift_rows (sub_bytes s))
shifted_block s block = shift_block (sub_bytes s) (sub_block s block)

pub rounds-block : (key block : List ℕ) → IsBlock key → IsBlock block → (r : ℕ) → IsBlock (rounds key block r)
unfolding rounds
rounds-block key block is_key is_block zero = xor_block block (round_key key 0) is_block (round_key-block key is_key 0)
rounds-block key block is_key is_block (suc r) =
    let s : List ℕ = rounds key block r in
    let shifted : List ℕ = shift_rows (sub_bytes s) in
    xor_block (mix_columns shifted) (round_key key (suc r)) (mix_block shifted (shifted_block s (rounds-block key block is_key is_block r)))
    (round_key-block key is_key (suc r))

any_sub_block : (s : List ℕ) → IsBlock (sub_bytes s)
any_sub_block s = (
  refl,
  four_words (map s_box (column s 0)) (map s_box (column s 1)) (map s_box (column s 2)) (map s_box (column s 3)) (any_sub_column s 0) (any_sub_column s 1) (any_sub_column s 2)
      (any_sub_column s 3),
)
  where
    any_sub_column : (s : List ℕ) (c : ℕ) → All IsByte (map s_box (column s c))
    any_sub_column s c =
        word_bytes (s_box (state_byte s 0 c)) (s_box (state_byte s 1 c)) (s_box (state_byte s 2 c)) (s_box (state_byte s 3 c))
        (record { first = any_s_box-lt _; second = any_s_box-lt _; third = any_s_box-lt _; fourth = any_s_box-lt _ })

pub encrypted-block : (key block : List ℕ) → IsBlock key → IsBlock (ciphertext key block)
unfolding ciphertext
encrypted-block key block is_key =
    let s : List ℕ = rounds key block 9 in
    xor_block (shift_rows (sub_bytes s)) (round_key key 10) (shift_block (sub_bytes s) (any_sub_block s)) (round_key-block key is_key 10)

-- ---- what undoes SubBytes and ShiftRows, and MixColumns
unsub : ℕ → ℕ
unsub b = get_or INVERSE_S_BOX b 0

unshift : List ℕ → List ℕ
unshift s = joined (map unsub (unshifted s 0 3 2 1)) (map unsub (unshifted s 1 0 3 2)) (map unsub (unshifted s 2 1 0 3)) (map unsub (unshifted s 3 2 1 0))

unmix : List ℕ → List ℕ
unmix s = joined (word_product unmixing (column s 0)) (word_product unmixing (column s 1)) (word_product unmixing (column s 2)) (word_product unmixing (column s 3))

unsub_word : (a b c d : ℕ) → AreBytes a b c d → unsub (s_box a) ∷ unsub (s_box b) ∷ unsub (s_box c) ∷ unsub (s_box d) ∷ [] ≡ a ∷ b ∷ c ∷ d ∷ []
unfolding unsub
unsub_word a b c d v = rw (inverse-s_box a v.first, inverse-s_box b v.second, inverse-s_box c v.third, inverse-s_box d v.fourth) refl

unshift-shift_rows : (s : List ℕ) → IsBlock s → unshift (shift_rows (sub_bytes s)) ≡ s
unfolding unshift
unshift-shift_rows s block =
    joined-same (map unsub (map s_box (column s 0))) (map unsub (map s_box (column s 1))) (map unsub (map s_box (column s 2))) (map unsub (map s_box (column s 3))) _ _ _ _
    (unsub_word _ _ _ _ (column_bytes s block 0)) (unsub_word _ _ _ _ (column_bytes s block 1)) (unsub_word _ _ _ _ (column_bytes s block 2)) (unsub_word _ _ _ _ (column_bytes s block 3))
    ∙ state_columns s block.0

unmix-mix_columns : (s : List ℕ) → IsBlock s → unmix (mix_columns s) ≡ s
unfolding unmix
unmix-mix_columns s block =
    joined-same (word_product unmixing (mixed_column (column s 0))) (word_product unmixing (mixed_column (column s 1)))
    (word_product unmixing (mixed_column (column s 2))) (word_product unmixing (mixed_column (column s 3))) _ _ _ _
    (unmixed-mixed _ _ _ _ (column_bytes s block 0)) (unmixed-mixed _ _ _ _ (column_bytes s block 1))
    (unmixed-mixed _ _ _ _ (column_bytes s block 2)) (unmixed-mixed _ _ _ _ (column_bytes s block 3))
    ∙ state_columns s block.0

-- two states that become equal when the key is added are equal
xor_one_to_one : (a b k : List ℕ) → IsBlock a → IsBlock b → IsBlock k → xor a k ≡ xor b k → a ≡ b
xor_one_to_one a b k is_a is_b is_k e =
    sym (xor-twice a k (omega (arith, is_a.0, is_k.0))) ∙ ap (λ (s : List ℕ). xor s k) e ∙ xor-twice b k (omega (arith, is_b.0, is_k.0))

shift_one_to_one : (a b : List ℕ) → IsBlock a → IsBlock b → shift_rows (sub_bytes a) ≡ shift_rows (sub_bytes b) → a ≡ b
shift_one_to_one a b is_a is_b e = sym (unshift-shift_rows a is_a) ∙ ap unshift e ∙ unshift-shift_rows b is_b

mix_one_to_one : (a b : List ℕ) → IsBlock a → IsBlock b → mix_columns a ≡ mix_columns b → a ≡ b
mix_one_to_one a b is_a is_b e = sym (unmix-mix_columns a is_a) ∙ ap unmix e ∙ unmix-mix_columns b is_b

rounds_one_to_one : (key a b : List ℕ) → IsBlock key → IsBlock a → IsBlock b → (r : ℕ) → rounds key a r ≡ rounds key b r → a ≡ b
unfolding rounds
rounds_one_to_one key a b is_key is_a is_b zero e = xor_one_to_one a b (round_key key 0) is_a is_b (round_key-block key is_key 0) e
rounds_one_to_one key a b is_key is_a is_b (suc r) e =
    let s : List ℕ = rounds key a r in
    let t : List ℕ = rounds key b r in
    let s_shifted : List ℕ = shift_rows (sub_bytes s) in
    let t_shifted : List ℕ = shift_rows (sub_bytes t) in
    let is_s = rounds-block key a is_key is_a r in
    let is_t = rounds-block key b is_key is_b r in
    let mixed : mix_columns s_shifted ≡ mix_columns t_shifted =
    xor_one_to_one (mix_columns s_shifted) (mix_columns t_shifted) (round_key key (suc r))
    (mix_block s_shifted (shifted_block s is_s)) (mix_block t_shifted (shifted_block t is_t)) (round_key-block key is_key (suc r)) e in
    let shifted : s_shifted ≡ t_shifted = mix_one_to_one s_shifted t_shifted (shifted_block s is_s) (shifted_block t is_t) mixed in
    rounds_one_to_one key a b is_key is_a is_b r (shift_one_to_one s t is_s is_t shifted)

pub encrypted_one_to_one : (key a b : List ℕ) → IsBlock key → IsBlock a → IsBlock b → ciphertext key a ≡ ciphertext key b → a ≡ b
unfolding ciphertext
encrypted_one_to_one key a b is_key is_a is_b e =
    let s : List ℕ = rounds key a 9 in
    let t : List ℕ = rounds key b 9 in
    let is_s = rounds-block key a is_key is_a 9 in
    let is_t = rounds-block key b is_key is_b 9 in
    let shifted : shift_rows (sub_bytes s) ≡ shift_rows (sub_bytes t) =
    xor_one_to_one (shift_rows (sub_bytes s)) (shift_rows (sub_bytes t)) (round_key key 10) (shifted_block s is_s) (shifted_block t is_t) (round_key-block key is_key 10) e in
    rounds_one_to_one key a b is_key is_a is_b 9 (shift_one_to_one s t is_s is_t shifted)
