-- AES-128 (FIPS 197). A block, a state and a key are lists of 16 bytes, a word and a column are
-- lists of 4.
use Rattle.std.specs.Prelude.{◌≡◌, ℕ, zero, suc, ◌<◌, ◌+◌, ◌*◌, ◌%◌, ◌^◌, List, [], ◌∷◌, ◌++◌}
use Rattle.std.specs.Prelude.{length, map, take, drop, slice_index, slice_index_or, All}
use Rattle.std.specs.Int.{w8, w128, rotate_left, to_be_bytes}
use Rattle.aes128.specs.Field.{◌⊕◌, power, inverse, word_product}

-- 16 bytes
abbrev pub IsBlock : List ℕ → Type 0
IsBlock block = (length block ≡ 16) × All (λ byte. byte < 2 ^ 8) block

-- the block of a number of 128 bits, its highest byte first
abbrev pub block_of : ℕ → List ℕ
block_of number = to_be_bytes w128 number

-- the sums of the bytes of two lists, place by place, up to the end of the shorter one
abbrev pub xor : List ℕ → List ℕ → List ℕ
xor [] bytes = []
xor (a ∷ as') [] = []
xor (a ∷ as') (b ∷ bs) = (a ⊕ b) ∷ xor as' bs

-- the byte in row r and column c of a state (§3.4)
abbrev pub state_byte : List ℕ → ℕ → ℕ → ℕ
state_byte state r c = slice_index state (r + 4 * c)

abbrev pub column : List ℕ → ℕ → List ℕ
column state c =
    state_byte state 0 c ∷ state_byte state 1 c ∷ state_byte state 2 c ∷ state_byte state 3 c ∷ []

-- the state with these columns
abbrev pub state_of_columns : (ℕ → List ℕ) → List ℕ
state_of_columns columns = columns 0 ++ (columns 1 ++ (columns 2 ++ columns 3))

-- the substitution of one byte: its inverse, and then an affine map of the bits (§5.1.1)
unfoldable pub s_box : ℕ → ℕ
s_box byte =
    let b = inverse byte in
    b ⊕ rotate_left w8 b 1 ⊕ rotate_left w8 b 2 ⊕ rotate_left w8 b 3 ⊕ rotate_left w8 b 4 ⊕ 0x63

-- SubBytes (§5.1.1)
abbrev pub sub_bytes : List ℕ → List ℕ
sub_bytes state = state_of_columns (λ c. map s_box (column state c))

-- column c of a state whose row r has moved left by r columns
abbrev pub shifted_column : List ℕ → ℕ → List ℕ
shifted_column s c =
    state_byte s 0 c ∷ state_byte s 1 ((c + 1) % 4) ∷ state_byte s 2 ((c + 2) % 4)
    ∷ state_byte s 3 ((c + 3) % 4) ∷ []

-- ShiftRows (§5.1.2)
abbrev pub shift_rows : List ℕ → List ℕ
shift_rows state = state_of_columns (λ c. shifted_column state c)

-- MixColumns of one column: the product with 3 y^3 + y^2 + y + 2 (§5.1.3)
abbrev pub mixed_column : List ℕ → List ℕ
mixed_column = word_product (2 ∷ 1 ∷ 1 ∷ 3 ∷ [])

-- MixColumns (§5.1.3)
abbrev pub mix_columns : List ℕ → List ℕ
mix_columns state = state_of_columns (λ c. mixed_column (column state c))

-- RotWord (§5.2)
abbrev pub rot_word : List ℕ → List ℕ
rot_word word = drop 1 word ++ take 1 word

-- the next four words of the key schedule. Each is the word four places before it plus the word
-- just before it. In the first place that word first goes through RotWord, SubWord and a round
-- constant (§5.2)
abbrev pub next_round_key : ℕ → List ℕ → List ℕ
next_round_key constant k =
    let w0 =
    xor (column k 0) (xor (map s_box (rot_word (column k 3))) (constant ∷ 0 ∷ 0 ∷ 0 ∷ [])) in
    let w1 = xor (column k 1) w0 in
    let w2 = xor (column k 2) w1 in
    let w3 = xor (column k 3) w2 in
    w0 ++ (w1 ++ (w2 ++ w3))

-- the key of round r: words 4 r to 4 r + 3 of the key schedule; the constant of round r + 1 is x^r
-- (§5.2)
unfoldable pub round_key : List ℕ → ℕ → List ℕ
round_key key zero = key
round_key key (suc r) = next_round_key (power 2 r) (round_key key r)

-- these are the keys of the rounds from 0 to 10 of the key that is the first of them
pub record AreRoundKeys (keys : List (List ℕ)) : Type 0 where
  pub size : length (slice_index_or keys 0 []) ≡ 16
  pub each : (r : ℕ) → r < 11 → slice_index_or keys r [] ≡ round_key (slice_index_or keys 0 []) r

-- the state after AddRoundKey and r rounds (§5.1)
unfoldable pub rounds : List ℕ → List ℕ → ℕ → List ℕ
rounds key block zero = xor block (round_key key 0)
rounds key block (suc r) =
    xor (mix_columns (shift_rows (sub_bytes (rounds key block r)))) (round_key key (suc r))

-- the encryption of a block: nine rounds, and one without MixColumns (§5.1)
unfoldable pub ciphertext : List ℕ → List ℕ → List ℕ
ciphertext key block = xor (shift_rows (sub_bytes (rounds key block 9))) (round_key key 10)
