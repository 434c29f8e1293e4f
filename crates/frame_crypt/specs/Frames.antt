-- The encryption and the MIC of a data frame (TS001-1.0.4 §4.3.3, §4.4). Addresses and counters are
-- numbers.
use Rattle.std.specs.Prelude.{ℕ, zero, suc, ◌+◌, ◌/◌, List, [], ◌∷◌, ◌++◌, length, take}
use Rattle.std.specs.Int.{w32, to_le_bytes}
use Rattle.aes128.specs.Cipher.{xor, ciphertext}
use Rattle.aes_cmac.specs.Cmac.{cmac}
use Rattle.lw_types.specs.declared.direction.Direction.{Direction}
use Rattle.lw_types.specs.declared.direction.Direction.TheVariants.{Up, Down}

-- the byte Dir
abbrev pub direction_byte : Direction → ℕ
direction_byte Up = 0
direction_byte Down = 1

-- the common part of the blocks A_i and B_0
abbrev pub frame_block : ℕ → Direction → ℕ → ℕ → ℕ → List ℕ
frame_block first dir addr counter last =
    first ∷ 0 ∷ 0 ∷ 0 ∷ 0 ∷ direction_byte dir
    ∷ (to_le_bytes w32 addr ++ (to_le_bytes w32 counter ++ (0 ∷ last ∷ [])))

-- the keystream: the blocks S_1 to S_n, which are the encrypted A_1 to A_n (§4.3.3)
unfoldable pub keystream : List ℕ → Direction → ℕ → ℕ → ℕ → List ℕ
keystream key dir addr counter zero = []
keystream key dir addr counter (suc n) =
    keystream key dir addr counter n ++ ciphertext key (frame_block 0x01 dir addr counter (suc n))

-- a FRMPayload, encrypted or decrypted: each byte is added to its byte of the keystream (§4.3.3)
unfoldable pub crypted_payload : List ℕ → Direction → ℕ → ℕ → List ℕ → List ℕ
crypted_payload key dir addr counter payload =
    xor payload (keystream key dir addr counter ((length payload + 15) / 16))

-- the MIC of a data message: four bytes of the CMAC of B_0 and the message (§4.4)
unfoldable pub data_mic : List ℕ → Direction → ℕ → ℕ → List ℕ → List ℕ
data_mic key dir addr counter message =
    take 4 (cmac key (frame_block 0x49 dir addr counter (length message) ++ message))
