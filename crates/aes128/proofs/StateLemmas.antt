-- States by their columns.
use Rattle.std.proofs.Common.{◌≡◌, ℕ, List, [], ◌∷◌, ◌++◌, map, length, ap, ◌∙◌}
use Rattle.aes128.specs.Cipher.{column, state_byte, s_box, shift_rows, sub_bytes, mixed_column, mix_columns}
use Rattle.aes128.proofs.WordLemmas.{state_columns}

-- the state of four words
abbrev pub joined : List ℕ → List ℕ → List ℕ → List ℕ → List ℕ
joined a b c d = column a 0 ++ (column b 0 ++ (column c 0 ++ column d 0))

pub joined-same : (a b c d e f g h : List ℕ) → a ≡ e → b ≡ f → c ≡ g → d ≡ h → joined a b c d ≡ joined e f g h
joined-same a b c d e f g h p q r s =
    ap (λ (x : List ℕ). joined x b c d) p ∙ ap (λ (x : List ℕ). joined e x c d) q
    ∙ ap (λ (x : List ℕ). joined e f x d) r ∙ ap (λ (x : List ℕ). joined e f g x) s

-- the state before MixColumns, from its columns
pub mix_columns-joined : (s a b c d : List ℕ) → length s ≡ 16
    → mixed_column a ≡ column s 0 → mixed_column b ≡ column s 1 → mixed_column c ≡ column s 2 → mixed_column d ≡ column s 3
    → mix_columns (joined a b c d) ≡ s
mix_columns-joined s a b c d sixteen p q r t = joined-same (mixed_column a) (mixed_column b) (mixed_column c) (mixed_column d) _ _ _ _ p q r t ∙ state_columns s sixteen

-- column c of the state that ShiftRows takes to this one
abbrev pub unshifted : List ℕ → ℕ → ℕ → ℕ → ℕ → List ℕ
unshifted s c c1 c2 c3 = state_byte s 0 c ∷ state_byte s 1 c1 ∷ state_byte s 2 c2 ∷ state_byte s 3 c3 ∷ []

-- the state before SubBytes and ShiftRows, from its columns
pub shift_rows-joined : (s a b c d : List ℕ) → length s ≡ 16
    → map s_box (column a 0) ≡ unshifted s 0 3 2 1 → map s_box (column b 0) ≡ unshifted s 1 0 3 2
    → map s_box (column c 0) ≡ unshifted s 2 1 0 3 → map s_box (column d 0) ≡ unshifted s 3 2 1 0
    → shift_rows (sub_bytes (joined a b c d)) ≡ s
shift_rows-joined s a b c d sixteen p q r t =
    ap shift_rows (joined-same (map s_box (column a 0)) (map s_box (column b 0)) (map s_box (column c 0)) (map s_box (column d 0)) _ _ _ _ p q r t)
    ∙ state_columns s sixteen
