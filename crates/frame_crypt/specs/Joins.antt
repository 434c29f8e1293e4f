-- The MICs, the sealed accept and the session keys of a join (TS001-1.0.4 §6.2). Nonces and NetIDs
-- are numbers.
use Rattle.std.specs.Prelude.{◌≡◌, ◌⊎◌, ℕ, zero, suc, ◌<◌, ◌-◌, ◌*◌, ◌/◌, ◌^◌, All, List, [], ◌∷◌}
use Rattle.std.specs.Prelude.{◌++◌, length, take, drop, replicate}
use Rattle.std.specs.Int.{w16, w32, to_le_bytes}
use Rattle.aes128.specs.Cipher.{ciphertext}
use Rattle.aes128.specs.InverseCipher.{plaintext}
use Rattle.aes_cmac.specs.Cmac.{cmac}

-- the MIC of a Join-Request, and of a Join-Accept before it is sealed, over the MHDR and the fields
-- after it
unfoldable pub join_mic : List ℕ → List ℕ → List ℕ
join_mic key message = take 4 (cmac key message)

-- the MHDR, then 12 bytes or with a CFList 28, then the MIC
abbrev pub IsAcceptSize : ℕ → Type 0
IsAcceptSize size = (size ≡ 17) ⊎ (size ≡ 33)

-- the first n blocks of a list, each through a cipher
unfoldable pub each_block : (List ℕ → List ℕ) → List ℕ → ℕ → List ℕ
each_block cipher bytes zero = []
each_block cipher bytes (suc n) =
    each_block cipher bytes n ++ cipher (take 16 (drop (16 * n) bytes))

-- a Join-Accept whose blocks after the MHDR went through a cipher
abbrev pub through : (List ℕ → List ℕ) → List ℕ → List ℕ
through cipher frame = take 1 frame ++ each_block cipher (drop 1 frame) (length frame / 16)

-- a sealed Join-Accept as the device opens it: each block is encrypted
abbrev pub opened_accept : List ℕ → List ℕ → List ℕ
opened_accept key frame = through (ciphertext key) frame

-- a Join-Accept whose last four bytes are its MIC
abbrev pub with_mic : List ℕ → List ℕ → List ℕ
with_mic key frame =
    let fields = take (length frame - 4) frame in
    fields ++ join_mic key fields

-- a Join-Accept as it is sent: its MIC in the last four bytes, and each block after the MHDR
-- decrypted
abbrev pub sealed_accept : List ℕ → List ℕ → List ℕ
sealed_accept key frame = through (plaintext key) (with_mic key frame)

-- the bytes of a Join-Accept, sealed or before it is sealed
abbrev pub IsAccept : List ℕ → Type 0
IsAccept frame = IsAcceptSize (length frame) × All (λ byte. byte < 2 ^ 8) frame

-- the three low bytes of a number, the lowest first
abbrev pub three_le_bytes : ℕ → List ℕ
three_le_bytes n = take 3 (to_le_bytes w32 n)

-- the session key of a kind: 1 for NwkSKey, 2 for AppSKey
unfoldable pub session_key : List ℕ → ℕ → ℕ → ℕ → ℕ → List ℕ
session_key key kind join_nonce net_id dev_nonce =
    ciphertext key (kind ∷ (three_le_bytes join_nonce
    ++ (three_le_bytes net_id ++ (to_le_bytes w16 dev_nonce ++ replicate 7 0))))
