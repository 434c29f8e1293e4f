-- The inverse cipher of AES-128 (FIPS 197 §5.3).
use Rattle.std.specs.Prelude.{ℕ, zero, suc, ◌+◌, ◌-◌, ◌%◌, List, [], ◌∷◌, map}
use Rattle.std.specs.Int.{w8, rotate_left}
use Rattle.aes128.specs.Field.{◌⊕◌, inverse, word_product}
use Rattle.aes128.specs.Cipher.{xor, state_byte, column, state_of_columns, round_key}

-- the inverse of the substitution of one byte: the affine map is undone, then the inverse element
-- is taken (§5.3.2)
unfoldable pub inv_s_box : ℕ → ℕ
inv_s_box byte =
    inverse (rotate_left w8 byte 1 ⊕ rotate_left w8 byte 3 ⊕ rotate_left w8 byte 6 ⊕ 0x05)

-- InvSubBytes (§5.3.2)
abbrev pub inv_sub_bytes : List ℕ → List ℕ
inv_sub_bytes state = state_of_columns (λ c. map inv_s_box (column state c))

-- column c of a state whose row r has moved right by r columns
abbrev pub unshifted_column : List ℕ → ℕ → List ℕ
unshifted_column s c =
    state_byte s 0 c ∷ state_byte s 1 ((c + 3) % 4) ∷ state_byte s 2 ((c + 2) % 4)
    ∷ state_byte s 3 ((c + 1) % 4) ∷ []

-- InvShiftRows (§5.3.1)
abbrev pub inv_shift_rows : List ℕ → List ℕ
inv_shift_rows state = state_of_columns (λ c. unshifted_column state c)

-- InvMixColumns of one column: the product with 11 y^3 + 13 y^2 + 9 y + 14 (§5.3.3)
abbrev pub unmixed_column : List ℕ → List ℕ
unmixed_column = word_product (14 ∷ 9 ∷ 13 ∷ 11 ∷ [])

-- InvMixColumns (§5.3.3)
abbrev pub inv_mix_columns : List ℕ → List ℕ
inv_mix_columns state = state_of_columns (λ c. unmixed_column (column state c))

-- the state after AddRoundKey with the last key and r inverse rounds (§5.3)
unfoldable pub inv_rounds : List ℕ → List ℕ → ℕ → List ℕ
inv_rounds key block zero = xor block (round_key key 10)
inv_rounds key block (suc r) =
    inv_mix_columns (xor (inv_sub_bytes (inv_shift_rows (inv_rounds key block r)))
    (round_key key (9 - r)))

-- the decryption of a block: nine inverse rounds, and one without InvMixColumns (§5.3)
unfoldable pub plaintext : List ℕ → List ℕ → List ℕ
plaintext key block =
    xor (inv_sub_bytes (inv_shift_rows (inv_rounds key block 9))) (round_key key 0)
