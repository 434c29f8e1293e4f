-- The inverse cipher undoes the cipher, step by step.
use Rattle.std.proofs.Common.{◌≡◌, ℕ, zero, suc, ◌<◌, ◌≤◌, ◌-◌, List, [], ◌∷◌, map, get_or, refl, sym, ap, subst, ◌∙◌, ◌+◌, add-one, arith}
use Rattle.std.specs.Prelude.{All}
use Rattle.aes128.specs.declared.substitution.TheConstants.{S_BOX, INVERSE_S_BOX}
use Rattle.aes128.specs.Field.{word_product}
use Rattle.aes128.specs.Cipher.{IsBlock, xor, column, state_byte, s_box, sub_bytes, shift_rows, mix_columns, round_key, rounds, ciphertext}
use Rattle.aes128.specs.InverseCipher.{inv_s_box, inv_sub_bytes, unshifted_column, inv_shift_rows, inv_mix_columns, inv_rounds, plaintext}
use Rattle.aes128.proofs.Below.{all_below, agree_below}
use Rattle.lw_types.specs.Values.{IsByte}
use Rattle.aes128.proofs.LawLemmas.{block_byte, column_bytes, word_bytes, four_words, product_bytes, xor_block, round_key-block, encrypted_one_to_one, encrypted-block}
use Rattle.aes128.proofs.SBoxLemmas.{inverse-table, unaffine, unaffine-lt, inverse-lt, s_box-inverse}
use Rattle.aes128.proofs.StateLemmas.{mix_columns-joined, shift_rows-joined}
use Rattle.aes128.proofs.WordLemmas.{AreBytes, mixed-unmixed, unmixing}
use Rattle.aes128.proofs.XorLemmas.{xor-twice}

pub table-inv_s_box : (byte : ℕ) → byte < 256 → get_or INVERSE_S_BOX byte 0 ≡ inv_s_box byte
unfolding all_below inv_s_box unaffine
table-inv_s_box byte low =
    agree_below (λ b. get_or INVERSE_S_BOX b 0) (λ b. unaffine (get_or S_BOX (unaffine b) 0)) 256 refl byte low
    ∙ sym (inverse-table (unaffine byte) (unaffine-lt byte low))

inv_s_box-lt : (byte : ℕ) → byte < 256 → inv_s_box byte < 256
inv_s_box-lt byte low = let P : ℕ → Type 0 = λ n. n < 256 in subst P (table-inv_s_box byte low) (inverse-lt byte low)

s_box-inv : (byte : ℕ) → byte < 256 → s_box (inv_s_box byte) ≡ byte
s_box-inv byte low = ap s_box (sym (table-inv_s_box byte low)) ∙ s_box-inverse byte low

sub_word : (a b c d : ℕ) → AreBytes a b c d → s_box (inv_s_box a) ∷ s_box (inv_s_box b) ∷ s_box (inv_s_box c) ∷ s_box (inv_s_box d) ∷ [] ≡ a ∷ b ∷ c ∷ d ∷ []
sub_word a b c d v = rw (s_box-inv a v.first, s_box-inv b v.second, s_box-inv c v.third, s_box-inv d v.fourth) refl

unshifted_bytes : (s : List ℕ) → IsBlock s → (c c1 c2 c3 : ℕ) → AreBytes (state_byte s 0 c) (state_byte s 1 c1) (state_byte s 2 c2) (state_byte s 3 c3)
unshifted_bytes s block c c1 c2 c3 = record { first = block_byte s block _; second = block_byte s block _; third = block_byte s block _; fourth = block_byte s block _ }

inv_word : (a b c d : ℕ) → AreBytes a b c d → All IsByte (inv_s_box a ∷ inv_s_box b ∷ inv_s_box c ∷ inv_s_box d ∷ [])
inv_word a b c d v =
    word_bytes _ _ _ _ (record { first = inv_s_box-lt a v.first; second = inv_s_box-lt b v.second; third = inv_s_box-lt c v.third; fourth = inv_s_box-lt d v.fourth })

-- what undoes SubBytes and ShiftRows
abbrev pub unshifted_state : List ℕ → List ℕ
unshifted_state s = inv_sub_bytes (inv_shift_rows s)

unshifted_block : (s : List ℕ) → IsBlock s → IsBlock (unshifted_state s)
unshifted_block s block = (
  refl,
  four_words (map inv_s_box (unshifted_column s 0)) (map inv_s_box (unshifted_column s 1)) (map inv_s_box (unshifted_column s 2)) (map inv_s_box (unshifted_column s 3))
      (inv_word _ _ _ _ (unshifted_bytes s block 0 3 2 1)) (inv_word _ _ _ _ (unshifted_bytes s block 1 0 3 2))
      (inv_word _ _ _ _ (unshifted_bytes s block 2 1 0 3)) (inv_word _ _ _ _ (unshifted_bytes s block 3 2 1 0)),
)

shift-unshifted : (s : List ℕ) → IsBlock s → shift_rows (sub_bytes (unshifted_state s)) ≡ s
shift-unshifted s block =
    shift_rows-joined s (map inv_s_box (unshifted_column s 0)) (map inv_s_box (unshifted_column s 1)) (map inv_s_box (unshifted_column s 2)) (map inv_s_box (unshifted_column s 3)) block.0
    (sub_word _ _ _ _ (unshifted_bytes s block 0 3 2 1)) (sub_word _ _ _ _ (unshifted_bytes s block 1 0 3 2))
    (sub_word _ _ _ _ (unshifted_bytes s block 2 1 0 3)) (sub_word _ _ _ _ (unshifted_bytes s block 3 2 1 0))

inv_mix_column : (s : List ℕ) → IsBlock s → (c : ℕ) → All IsByte (word_product unmixing (column s c))
inv_mix_column s block c = product_bytes unmixing _ _ _ _ (column_bytes s block c)

inv_mix_block : (s : List ℕ) → IsBlock s → IsBlock (inv_mix_columns s)
inv_mix_block s block = (refl, four_words (word_product unmixing (column s 0)) (word_product unmixing (column s 1)) (word_product unmixing (column s 2)) (word_product unmixing (column s 3)) (inv_mix_column s block 0) (inv_mix_column s block 1) (inv_mix_column s block 2) (inv_mix_column s block 3))

mix-inv_mix : (s : List ℕ) → IsBlock s → mix_columns (inv_mix_columns s) ≡ s
mix-inv_mix s block =
    mix_columns-joined s (word_product unmixing (column s 0)) (word_product unmixing (column s 1)) (word_product unmixing (column s 2)) (word_product unmixing (column s 3)) block.0
    (mixed-unmixed _ _ _ _ (column_bytes s block 0)) (mixed-unmixed _ _ _ _ (column_bytes s block 1))
    (mixed-unmixed _ _ _ _ (column_bytes s block 2)) (mixed-unmixed _ _ _ _ (column_bytes s block 3))

-- adding a key of 16 bytes twice leaves a block as it was
key-twice : (s k : List ℕ) → IsBlock s → IsBlock k → xor (xor s k) k ≡ s
key-twice s k is_s is_k = xor-twice s k (omega (arith, is_s.0, is_k.0))

module _ (key block : List ℕ) (is_key : IsBlock key) (is_block : IsBlock block) where
  keys : (r : ℕ) → IsBlock (round_key key r)
  keys r = round_key-block key is_key r

  inv_rounds-block : (r : ℕ) → IsBlock (inv_rounds key block r)
  unfolding inv_rounds
  inv_rounds-block zero = xor_block block (round_key key 10) is_block (keys 10)
  inv_rounds-block (suc r) =
      let before = unshifted_block (inv_rounds key block r) (inv_rounds-block r) in
      inv_mix_block (xor (unshifted_state (inv_rounds key block r)) (round_key key (9 - r))) (xor_block (unshifted_state (inv_rounds key block r)) (round_key key (9 - r)) before (keys (9 - r)))

  pub decrypted-block : IsBlock (plaintext key block)
  unfolding plaintext
  decrypted-block = xor_block (unshifted_state (inv_rounds key block 9)) (round_key key 0) (unshifted_block (inv_rounds key block 9) (inv_rounds-block 9)) (keys 0)

  -- the state before the last r rounds are undone
  abbrev left : ℕ → List ℕ
  left r = unshifted_state (inv_rounds key block r)

  left-block : (r : ℕ) → IsBlock (left r)
  left-block r = unshifted_block (inv_rounds key block r) (inv_rounds-block r)

  -- a round leads back to the state before it was undone
  round-left : (r : ℕ) → xor (mix_columns (shift_rows (sub_bytes (left (suc r))))) (round_key key (9 - r)) ≡ left r
  unfolding inv_rounds
  round-left r =
      let k = round_key key (9 - r) in
      let sum = xor (left r) k in
      ap (λ (s : List ℕ). xor (mix_columns s) k) (shift-unshifted (inv_rounds key block (suc r)) (inv_rounds-block (suc r)))
      ∙ ap (λ (s : List ℕ). xor s k) (mix-inv_mix sum (xor_block (left r) k (left-block r) (keys (9 - r))))
      ∙ key-twice (left r) k (left-block r) (keys (9 - r))

  rounds-left : (k : ℕ) → k ≤ 9 → rounds key (plaintext key block) k ≡ left (9 - k)
  unfolding rounds plaintext
  rounds-left zero low = key-twice (left 9) (round_key key 0) (left-block 9) (keys 0)
  rounds-left (suc k) low =
      let r = 9 - suc k in
      let next : 9 - k ≡ suc r = omega arith in
      let same : 9 - r ≡ suc k = omega arith in
      let state = λ (s : List ℕ) (n : ℕ). xor (mix_columns (shift_rows (sub_bytes s))) (round_key key n) in
      ap (λ (s : List ℕ). state s (suc k)) (rounds-left k (omega arith) ∙ ap left next)
      ∙ ap (state (left (suc r))) (sym same)
      ∙ round-left r

  pub encrypted-decrypted : ciphertext key (plaintext key block) ≡ block
  unfolding ciphertext inv_rounds
  encrypted-decrypted =
      let k = round_key key 10 in
      ap (λ (s : List ℕ). xor (shift_rows (sub_bytes s)) k) (rounds-left 9 (omega arith))
      ∙ ap (λ (s : List ℕ). xor s k) (shift-unshifted (inv_rounds key block 0) (inv_rounds-block 0))
      ∙ key-twice block k is_block (keys 10)

pub decrypted-encrypted : (key block : List ℕ) → IsBlock key → IsBlock block → plaintext key (ciphertext key block) ≡ block
decrypted-encrypted key block is_key is_block =
    let sealed = ciphertext key block in
    let is_sealed = encrypted-block key block is_key in
    encrypted_one_to_one key (plaintext key sealed) block is_key (decrypted-block key sealed is_key is_sealed) is_block (encrypted-decrypted key sealed is_key is_sealed)

-- the inverse rounds, one after another
pub inv_rounds-zero : (key block k : List ℕ) → k ≡ round_key key 10 → xor block k ≡ inv_rounds key block 0
unfolding inv_rounds
inv_rounds-zero key block k is_key = ap (xor block) is_key

pub inv_rounds-next : (key block s k : List ℕ) (r : ℕ) → s ≡ unshifted_state (inv_rounds key block r) → k ≡ round_key key (9 - r)
    → inv_mix_columns (xor s k) ≡ inv_rounds key block (r + 1)
unfolding inv_rounds
inv_rounds-next key block s k r at is_key =
    let plus : r + 1 ≡ suc r = add-one r in
    ap (λ (s : List ℕ). inv_mix_columns (xor s k)) at
    ∙ (ap (λ (k : List ℕ). inv_mix_columns (xor (unshifted_state (inv_rounds key block r)) k)) is_key ∙ ap (inv_rounds key block) (sym plus))

pub decrypted-last : (key block s : List ℕ) (r : ℕ) → r ≡ 9 → s ≡ unshifted_state (inv_rounds key block r) → xor s key ≡ plaintext key block
unfolding plaintext round_key
decrypted-last key block s r last at = ap (λ (s : List ℕ). xor s key) (at ∙ ap (λ n. unshifted_state (inv_rounds key block n)) last)
