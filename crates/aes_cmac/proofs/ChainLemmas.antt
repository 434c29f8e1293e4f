-- The chain of a message that grows by one byte.
use Rattle.std.proofs.Common.{◌≡◌, ℕ, zero, suc, ◌+◌, ◌-◌, ◌*◌, ◌/◌, ◌%◌, ◌^◌, ◌<◌, ◌≤◌, List, [], ◌∷◌, ◌++◌, length, take, drop, replicate, get_or, refl, sym, ap, ◌∙◌, arith, inl, inr, append_assoc, length-append, length-drop}
use Rattle.std.proofs.Math.ListN.{set}
use Rattle.std.proofs.lemmas.Bool.{eq-eqb, lt-ltb, le-ltb}
use Rattle.std.proofs.lemmas.Bool.Decides.{eqb_tells}
use Rattle.std.proofs.lemmas.List.{take-append-le, drop-append-le, drop_all, take_all, append-nil}
use Rattle.std.specs.Int.Bits.{xor_assoc, xor_zero_r}
use Rattle.aes128.specs.Field.{◌⊕◌}
use Rattle.aes128.specs.Cipher.{xor, ciphertext, rounds, round_key, shift_rows, sub_bytes}
use Rattle.aes_cmac.specs.Cmac.{zero_block, first_subkey, second_subkey, blocks_before_last, after_blocks, chain_value, masked_last, zero_padded, IsChained, cmac, double_number}

pub xor_assoc_lists : (as' bs cs : List ℕ) → xor (xor as' bs) cs ≡ xor as' (xor bs cs)
xor_assoc_lists [] bs cs = refl
xor_assoc_lists (a ∷ as') [] cs = refl
xor_assoc_lists (a ∷ as') (b ∷ bs) [] = refl
xor_assoc_lists (a ∷ as') (b ∷ bs) (c ∷ cs) =
    ap (λ (n : ℕ). n ∷ xor (xor as' bs) cs) (xor_assoc a b c) ∙ ap (λ (l : List ℕ). (a ⊕ (b ⊕ c)) ∷ l) (xor_assoc_lists as' bs cs)

pub xor_zeros : (bytes : List ℕ) (n : ℕ) → length bytes ≤ n → xor bytes (replicate n 0) ≡ bytes
xor_zeros [] n fits = refl
xor_zeros (b ∷ bs) zero fits = absurd (omega arith)
xor_zeros (b ∷ bs) (suc n) fits = ap (λ (k : ℕ). k ∷ xor bs (replicate n 0)) (xor_zero_r b) ∙ ap (λ (l : List ℕ). b ∷ l) (xor_zeros bs n (omega arith))

pub length-xor_le : (xs ys : List ℕ) → length (xor xs ys) ≤ length xs
length-xor_le [] ys = omega arith
length-xor_le (x ∷ xs) [] = omega arith
length-xor_le (x ∷ xs) (y ∷ ys) = let rest = length-xor_le xs ys in omega arith

-- a byte added to the first zero after the bytes so far
pub set-xor_filled : (chain bytes : List ℕ) (byte z : ℕ) → length bytes < length chain
    → set (xor chain (bytes ++ replicate (suc z) 0)) (length bytes) (get_or (xor chain (bytes ++ replicate (suc z) 0)) (length bytes) 0 ⊕ byte)
    ≡ xor chain (bytes ++ byte ∷ replicate z 0)
set-xor_filled [] bytes byte z room = absurd (omega arith)
set-xor_filled (c ∷ chain) [] byte z room = ap (λ (n : ℕ). (n ⊕ byte) ∷ xor chain (replicate z 0)) (xor_zero_r c)
set-xor_filled (c ∷ chain) (b ∷ bytes) byte z room = ap (λ (l : List ℕ). (c ⊕ b) ∷ l) (set-xor_filled chain bytes byte z (omega arith))

-- later bytes don't change the chain
pub chained-append : (key message more : List ℕ) (n : ℕ) → 16 * n ≤ length message → chain_value key (message ++ more) n ≡ chain_value key message n
unfolding chain_value
chained-append key message more zero fits = refl
chained-append key message more (suc n) fits =
    let rest : length (drop (16 * n) message) ≡ length message - 16 * n = length-drop (16 * n) message in
    let first : take 16 (drop (16 * n) (message ++ more)) ≡ take 16 (drop (16 * n) message) =
    rw (drop-append-le (16 * n) message more (omega arith)) (take-append-le 16 (drop (16 * n) message) more (omega arith)) in
    ap (λ (chain : List ℕ). ciphertext key (xor chain (take 16 (drop (16 * n) (message ++ more))))) (chained-append key message more n (omega arith))
    ∙ ap (λ (block : List ℕ). ciphertext key (xor (chain_value key message n) block)) first

pub length-after : (n : ℕ) (message : List ℕ) → length (after_blocks n message) ≡ length message - 16 * n
length-after n message = length-drop (16 * n) message

-- a byte is added to a block that has room
pub IsChained-byte : (key block message : List ℕ) (used n byte : ℕ) → IsChained key block message used n → used < 16 → length block ≡ 16
    → set block used (get_or block used 0 ⊕ byte) ≡ xor (chain_value key message n) (after_blocks n message ++ byte ∷ replicate (15 - used) 0)
IsChained-byte key block message used n byte held room size =
    let rest : length (after_blocks n message) ≡ used = length-after n message ∙ (let p = held.place in omega arith) in
    let left : 16 - used ≡ suc (15 - used) = omega arith in
    let chain : List ℕ = chain_value key message n in
    let bytes : List ℕ = after_blocks n message in
    let long : length block ≤ length chain = rw held.added (length-xor_le chain (zero_padded bytes)) in
    let is : block ≡ xor chain (bytes ++ replicate (suc (15 - used)) 0) = held.added ∙ ap (λ (k : ℕ). xor chain (bytes ++ replicate k 0)) (ap (λ (k : ℕ). 16 - k) rest ∙ left) in
    ap (λ (b : List ℕ). set b used (get_or b used 0 ⊕ byte)) is
    ∙ ap (λ (k : ℕ). set (xor chain (bytes ++ replicate (suc (15 - used)) 0)) k (get_or (xor chain (bytes ++ replicate (suc (15 - used)) 0)) k 0 ⊕ byte)) (sym rest)
    ∙ set-xor_filled chain bytes byte (15 - used) (omega arith)

pub IsChained-more : (key block message : List ℕ) (used byte : ℕ) → IsChained key block message used (length message / 16) → used < 16 → length block ≡ 16
    → IsChained key (set block used (get_or block used 0 ⊕ byte)) (message ++ byte ∷ []) (used + 1) (blocks_before_last (message ++ byte ∷ []))
IsChained-more key block message used byte held room size =
    let n : ℕ = length message / 16 in
    let place : 16 * n + used ≡ length message = held.place in
    let longer : length (message ++ byte ∷ []) ≡ length message + 1 = length-append message (byte ∷ []) in
    let same : blocks_before_last (message ++ byte ∷ []) ≡ n = omega arith in
    let rest : length (after_blocks n message) ≡ used = length-after n message ∙ omega arith in
    let parts : after_blocks n (message ++ byte ∷ []) ≡ after_blocks n message ++ byte ∷ [] = drop-append-le (16 * n) message (byte ∷ []) (omega arith) in
    let fill : zero_padded (after_blocks n (message ++ byte ∷ [])) ≡ after_blocks n message ++ byte ∷ replicate (15 - used) 0 =
    ap zero_padded parts
    ∙ append_assoc (after_blocks n message) (byte ∷ []) (replicate (16 - length (after_blocks n message ++ byte ∷ [])) 0)
    ∙ ap (λ (k : ℕ). after_blocks n message ++ byte ∷ replicate k 0)
    (let grown : length (after_blocks n message ++ byte ∷ []) ≡ length (after_blocks n message) + 1 = length-append (after_blocks n message) (byte ∷ []) in omega arith) in
    rw same (record {
      place = omega arith;
      added =
          IsChained-byte key block message used n byte held room size
          ∙ ap (λ (l : List ℕ). xor (chain_value key message n) l) (sym fill)
          ∙ ap (λ (l : List ℕ). xor l (zero_padded (after_blocks n (message ++ byte ∷ [])))) (sym (chained-append key message (byte ∷ []) n (omega arith)));
    })

pub IsChained-none : (key : List ℕ) → IsChained key zero_block [] 0 0
unfolding chain_value
IsChained-none key = record { place = refl; added = refl }

pub filled-whole : (bytes : List ℕ) → length bytes ≡ 16 → zero_padded bytes ≡ bytes
filled-whole bytes whole = ap (λ (k : ℕ). bytes ++ replicate (16 - k) 0) whole ∙ append-nil bytes

-- an encryption has no more bytes than a block
pub length-encrypted : (key block : List ℕ) → length (ciphertext key block) ≤ 16
unfolding ciphertext
length-encrypted key block = length-xor_le (shift_rows (sub_bytes (rounds key block 9))) (round_key key 10)

-- a whole block goes into the chain
pub IsChained-block : (key block next message : List ℕ) (used : ℕ) → IsChained key block message used (blocks_before_last message) → used ≡ 16
    → next ≡ ciphertext key block → IsChained key next message 0 (length message / 16)
unfolding chain_value
IsChained-block key block next message used held whole is_next =
    let size : length next ≤ 16 = rw is_next (length-encrypted key block) in
    let q : ℕ = blocks_before_last message in
    let place : 16 * q + used ≡ length message = held.place in
    let more : length message / 16 ≡ suc q = omega arith in
    let rest : length (after_blocks q message) ≡ 16 = length-after q message ∙ omega arith in
    let none : after_blocks (suc q) message ≡ [] = drop_all (16 * suc q) message (omega arith) in
    let block_is : block ≡ xor (chain_value key message q) (take 16 (after_blocks q message)) =
    held.added ∙ ap (xor (chain_value key message q)) (filled-whole (after_blocks q message) rest ∙ sym (take_all 16 (after_blocks q message) (omega arith))) in
    let next_is : next ≡ chain_value key message (suc q) = is_next ∙ ap (ciphertext key) block_is in
    rw more (record {
      place = omega arith;
      added = sym (ap (λ (l : List ℕ). xor (chain_value key message (suc q)) (zero_padded l)) none ∙ ap (λ (l : List ℕ). xor l zero_block) (sym next_is) ∙ xor_zeros next 16 (omega arith)) ∙ refl;
    })

masked_whole : (key last : List ℕ) → length last ≡ 16 → masked_last key last ≡ xor last (first_subkey key)
masked_whole key last whole = rw (eq-eqb (length last) 16 whole) refl

masked_short : (key last : List ℕ) → length last < 16 → masked_last key last ≡ xor (last ++ 0x80 ∷ replicate (15 - length last) 0) (second_subkey key)
masked_short key last short =
    elim (eqb_tells (length last) 16) [
      | inl same ↦ absurd (omega arith)
      | inr other ↦ rw other.0 refl
    ]

-- the MAC of a message whose last block is whole, and of one whose last block isn't
pub cmac-whole : (key block message : List ℕ) (used : ℕ) → IsChained key block message used (blocks_before_last message) → used ≡ 16
    → ciphertext key (xor block (first_subkey key)) ≡ cmac key message
unfolding cmac
cmac-whole key block message used held whole =
    let q : ℕ = blocks_before_last message in
    let last : List ℕ = after_blocks q message in
    let place : 16 * q + used ≡ length message = held.place in
    let rest : length last ≡ 16 = length-after q message ∙ omega arith in
    ap (ciphertext key)
    (ap (λ (b : List ℕ). xor b (first_subkey key)) (held.added ∙ ap (xor (chain_value key message q)) (filled-whole last rest))
    ∙ xor_assoc_lists (chain_value key message q) last (first_subkey key)
    ∙ ap (xor (chain_value key message q)) (sym (masked_whole key last rest)))

pub cmac-short : (key block message : List ℕ) (used : ℕ) → IsChained key block message used (blocks_before_last message) → used < 16 → length block ≡ 16
    → ciphertext key (xor (set block used (get_or block used 0 ⊕ 0x80)) (second_subkey key)) ≡ cmac key message
unfolding cmac
cmac-short key block message used held short size =
    let q : ℕ = blocks_before_last message in
    let last : List ℕ = after_blocks q message in
    let place : 16 * q + used ≡ length message = held.place in
    let rest : length last ≡ used = length-after q message ∙ omega arith in
    let padded : List ℕ = last ++ 0x80 ∷ replicate (15 - used) 0 in
    ap (ciphertext key)
    (ap (λ (b : List ℕ). xor b (second_subkey key)) (IsChained-byte key block message used q 0x80 held short size)
    ∙ xor_assoc_lists (chain_value key message q) padded (second_subkey key)
    ∙ ap (xor (chain_value key message q)) (ap (λ (k : ℕ). xor (last ++ 0x80 ∷ replicate (15 - k) 0) (second_subkey key)) (sym rest) ∙ sym (masked_short key last (omega arith))))

pub doubled_number-low : (n : ℕ) → n < 2 ^ 127 → n * 2 % 2 ^ 128 ≡ double_number n
unfolding double_number
doubled_number-low n low = rw (lt-ltb n (2 ^ 127) low) (omega arith)

pub doubled_number-high : (n : ℕ) → 2 ^ 127 ≤ n → n < 2 ^ 128 → (n * 2 % 2 ^ 128) ⊕ 0x87 ≡ double_number n
unfolding double_number
doubled_number-high n high fits =
    let once : n * 2 % 2 ^ 128 ≡ 2 * n - 2 ^ 128 = omega arith in
    rw (le-ltb n (2 ^ 127) high) (ap (λ (k : ℕ). k ⊕ 0x87) once)
