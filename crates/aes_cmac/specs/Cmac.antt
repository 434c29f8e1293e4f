-- AES-CMAC (RFC 4493) of a whole message, which is a list of bytes. A key and a block are lists of
-- 16 bytes.
use Rattle.std.specs.Prelude.{◌≡◌, ℕ, zero, suc, ◌+◌, ◌-◌, ◌*◌, ◌/◌, ◌^◌, ◌==◌, nat_lt}
use Rattle.std.specs.Prelude.{if◌then◌else◌, List, ◌∷◌, ◌++◌, length, take, drop, replicate}
use Rattle.std.specs.Int.{w128, from_be_bytes, to_be_bytes}
use Rattle.aes128.specs.Field.{◌⊕◌}
use Rattle.aes128.specs.Cipher.{xor, ciphertext}

-- const_Zero (§2.3)
abbrev pub zero_block : List ℕ
zero_block = replicate 16 0

-- 128 bits shifted left by one, as a number; if a 1 is shifted out, 0x87 is added (§2.3)
unfoldable pub double_number : ℕ → ℕ
double_number n = if nat_lt n (2 ^ 127) then 2 * n else (2 * n - 2 ^ 128) ⊕ 0x87

-- a block shifted left by one bit in this way, its first bit the highest
unfoldable pub double : List ℕ → List ℕ
double block = to_be_bytes w128 (double_number (from_be_bytes w128 block))

-- K1 and K2 (§2.3)
abbrev pub first_subkey : List ℕ → List ℕ
first_subkey key = double (ciphertext key zero_block)

abbrev pub second_subkey : List ℕ → List ℕ
second_subkey key = double (first_subkey key)

-- how many whole blocks come before the last one. The last one has 1 to 16 bytes, or none if the
-- message is empty
abbrev pub blocks_before_last : List ℕ → ℕ
blocks_before_last message = (length message - 1) / 16

-- the bytes after the first n blocks
abbrev pub after_blocks : ℕ → List ℕ → List ℕ
after_blocks n message = drop (16 * n) message

-- X after the first n blocks (§2.4, step 6)
unfoldable pub chain_value : List ℕ → List ℕ → ℕ → List ℕ
chain_value key message zero = zero_block
chain_value key message (suc n) =
    ciphertext key (xor (chain_value key message n) (take 16 (after_blocks n message)))

-- M_last: a last block that is whole is added to K1; otherwise it is padded with one bit 1 and
-- zeros, and added to K2 (§2.4, step 4)
abbrev pub masked_last : List ℕ → List ℕ → List ℕ
masked_last key last =
    if length last == 16 then xor last (first_subkey key)
    else xor (last ++ 0x80 ∷ replicate (15 - length last) 0) (second_subkey key)

-- the MAC of a message (§2.4)
unfoldable pub cmac : List ℕ → List ℕ → List ℕ
cmac key message =
    let n = blocks_before_last message in
    ciphertext key (xor (chain_value key message n) (masked_last key (after_blocks n message)))

-- a list filled up with zeros to 16 bytes
abbrev pub zero_padded : List ℕ → List ℕ
zero_padded bytes = bytes ++ replicate (16 - length bytes) 0

-- a block that is the sum of the chain of the first n blocks and the bytes after them, at most 16
pub record IsChained (key block message : List ℕ) (used n : ℕ) : Type 0 where
  pub place : 16 * n + used ≡ length message
  pub added : block ≡ xor (chain_value key message n) (zero_padded (after_blocks n message))
