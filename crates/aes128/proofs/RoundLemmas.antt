-- The rounds and the round keys, one after another.
use Rattle.std.proofs.Common.{◌≡◌, ℕ, suc, ◌+◌, List, refl, sym, ap, ◌∙◌, add-one}
use Rattle.aes128.specs.Field.{◌•◌, power}
use Rattle.aes128.specs.Cipher.{xor, next_round_key, round_key, rounds, ciphertext, sub_bytes, shift_rows, mix_columns}

pub power-next : (b r : ℕ) → power b (r + 1) ≡ b • power b r
unfolding power
power-next b r = rw add-one refl

pub power-zero : (b : ℕ) → power b 0 ≡ 1
unfolding power
power-zero b = refl

pub round_key-zero : (key : List ℕ) → round_key key 0 ≡ key
unfolding round_key
round_key-zero key = refl

pub round_key-next : (key k : List ℕ) (constant r : ℕ) → k ≡ round_key key r → constant ≡ power 2 r → next_round_key constant k ≡ round_key key (r + 1)
unfolding round_key
round_key-next key k constant r is_key is_constant = rw (is_key, is_constant, add-one) refl

pub rounds-zero : (key block : List ℕ) → rounds key block 0 ≡ xor block key
unfolding rounds round_key
rounds-zero key block = refl

pub rounds-next : (key block s k : List ℕ) (r : ℕ) → s ≡ rounds key block r → k ≡ round_key key (r + 1)
    → xor (mix_columns (shift_rows (sub_bytes s))) k ≡ rounds key block (r + 1)
unfolding rounds
rounds-next key block s k r at is_key =
    let plus : r + 1 ≡ suc r = add-one r in
    let round = λ (s : List ℕ) (k : List ℕ). xor (mix_columns (shift_rows (sub_bytes s))) k in
    ap (λ (s : List ℕ). round s k) at ∙ ap (round (rounds key block r)) (is_key ∙ ap (round_key key) plus) ∙ ap (rounds key block) (sym plus)

pub encrypted-last : (key block s k : List ℕ) → s ≡ rounds key block 9 → k ≡ round_key key 10 → xor (shift_rows (sub_bytes s)) k ≡ ciphertext key block
unfolding ciphertext
encrypted-last key block s k at is_key =
    let last = λ (s : List ℕ) (k : List ℕ). xor (shift_rows (sub_bytes s)) k in
    ap (λ (s : List ℕ). last s k) at ∙ ap (last (rounds key block 9)) is_key
