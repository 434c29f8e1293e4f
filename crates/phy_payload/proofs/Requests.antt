-- The bytes of a Join-Request, and where its fields are.
use Rattle.std.proofs.Common.{◌≡◌, ℕ, ◌+◌, List, [], ◌∷◌, length, take, drop, Ok, refl, sym, ap, ◌∙◌, arith}
use Rattle.std.specs.Int.{w16, w64, from_le_bytes}
use Rattle.std.proofs.lemmas.List.{length-append, length-drop}
use Rattle.std.proofs.lemmas.Nat.{from_le_bytes-to_le_bytes_2, from_le_bytes-to_le_bytes_8}
use Rattle.lw_types.specs.Hex.{IsBytes}
use Rattle.phy_payload.specs.declared.phy.Phy.TheVariants as phy
use Rattle.phy_payload.specs.declared.join.JoinRequest.{JoinRequest}
use Rattle.phy_payload.specs.Frame.{request_mic_input, spelling, IsPhy}
use Rattle.phy_payload.specs.Reading.{phy_at, request_at}
use Rattle.phy_payload.proofs.FrameLaws.{phy_takes}

pub request_shape : (bytes : List ℕ) (r : JoinRequest) → IsPhy bytes (phy.JoinRequest r) → (length bytes ≡ 23) × (take 1 bytes ≡ 0 ∷ [])
unfolding spelling
request_shape bytes r h =
    let mic = h.0.mic.1 in
    let len : length bytes ≡ length (request_mic_input r) + length r.mic.0 = ap length h.1 ∙ length-append (request_mic_input r) r.mic.0 in
    (omega arith, ap (take 1) h.1)

pub request_fields : (bytes : List ℕ) (r : JoinRequest) → IsPhy bytes (phy.JoinRequest r)
    → (r.join_eui.0 ≡ from_le_bytes w64 (take 8 (drop 1 bytes)))
    × (r.dev_eui.0 ≡ from_le_bytes w64 (take 8 (drop 9 bytes)))
    × (r.dev_nonce ≡ from_le_bytes w16 (take 2 (drop 17 bytes)))
    × (r.mic.0 ≡ drop 19 bytes)
unfolding spelling
request_fields bytes r h = (
  sym (ap (λ (b : List ℕ). from_le_bytes w64 (take 8 (drop 1 b))) h.1 ∙ from_le_bytes-to_le_bytes_8 r.join_eui.0 h.0.join_eui),
  sym (ap (λ (b : List ℕ). from_le_bytes w64 (take 8 (drop 9 b))) h.1 ∙ from_le_bytes-to_le_bytes_8 r.dev_eui.0 h.0.dev_eui),
  sym (ap (λ (b : List ℕ). from_le_bytes w16 (take 2 (drop 17 b))) h.1 ∙ from_le_bytes-to_le_bytes_2 r.dev_nonce h.0.dev_nonce),
  sym (ap (λ (b : List ℕ). drop 19 b) h.1),
)

-- 22 bytes are read as the four fields
request_reads : (body : List ℕ) → length body ≡ 22 → (r : JoinRequest) × (phy_at (0 ∷ body) ≡ Ok (phy.JoinRequest r))
unfolding phy_at request_at
request_reads body len =
    let second : length (drop 8 body) ≡ 14 = omega (arith, length-drop 8 body) in
    let third : length (drop 8 (drop 8 body)) ≡ 6 = omega (arith, length-drop 8 (drop 8 body)) in
    let fourth : length (drop 2 (drop 8 (drop 8 body))) ≡ 4 = omega (arith, length-drop 2 (drop 8 (drop 8 body))) in
    let last : length (drop 4 (drop 2 (drop 8 (drop 8 body)))) ≡ 0 = omega (arith, length-drop 4 (drop 2 (drop 8 (drop 8 body)))) in (
      record {
        join_eui = record { 0 = from_le_bytes w64 (take 8 body) };
        dev_eui = record { 0 = from_le_bytes w64 (take 8 (drop 8 body)) };
        dev_nonce = from_le_bytes w16 (take 2 (drop 8 (drop 8 body)));
        mic = record { 0 = take 4 (drop 2 (drop 8 (drop 8 body))) };
      },
      rw (len, second, third, fourth, last) refl,
    )

pub request_each : (bytes : List ℕ) → IsBytes bytes → length bytes ≡ 23 → take 1 bytes ≡ 0 ∷ [] → (r : JoinRequest) × IsPhy bytes (phy.JoinRequest r)
request_each [] fits len zero = absurd cc
request_each (first ∷ body) fits len zero =
    let is : first ≡ 0 = cc in
    let few : length body ≡ 22 = omega arith in
    let found = request_reads body few in
    let reads : phy_at (first ∷ body) ≡ Ok (phy.JoinRequest found.0) = ap (λ (n : ℕ). phy_at (n ∷ body)) is ∙ found.1 in
    (found.0, phy_takes (first ∷ body) (phy.JoinRequest found.0) fits reads)
