-- The Join-Request and its fields (TS001-1.0.4 §6.2.5).
use Rattle.std.specs.Prelude.{◌≡◌, ℕ, List, [], ◌∷◌, length, take, drop}
use Rattle.std.specs.Int.{w16, w64, from_le_bytes}

-- the bytes of a Join-Request: 23 bytes with an MHDR of 0 (§4.2, §6.2.5)
abbrev pub IsRequest : List ℕ → Type 0
IsRequest bytes = (length bytes ≡ 23) × (take 1 bytes ≡ 0 ∷ [])

-- the fields: MHDR (1), JoinEUI (8), DevEUI (8), DevNonce (2), MIC (4), low bytes first
abbrev pub join_eui_of : List ℕ → ℕ
join_eui_of request = from_le_bytes w64 (take 8 (drop 1 request))

abbrev pub dev_eui_of : List ℕ → ℕ
dev_eui_of request = from_le_bytes w64 (take 8 (drop 9 request))

abbrev pub dev_nonce_of : List ℕ → ℕ
dev_nonce_of request = from_le_bytes w16 (take 2 (drop 17 request))

-- the bytes before the MIC, and the MIC
abbrev pub mic_input : List ℕ → List ℕ
mic_input request = take 19 request

abbrev pub request_mic : List ℕ → List ℕ
request_mic request = drop 19 request
