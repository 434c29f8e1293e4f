-- A number of eight bytes of a list is below 2^64.
use Rattle.std.proofs.Common.{ℕ, ◌+◌, ◌<◌, ◌^◌, List, take, drop, sym, subst, ◌∙◌, arith}
use Rattle.std.specs.Prelude.{slice_index}
use Rattle.std.specs.Int.{w64, from_le_bytes}
use Rattle.std.proofs.lemmas.List.{get_or-take, get_or-drop}
use Rattle.lw_types.specs.Hex.{IsBytes}

byte_at : (xs : List ℕ) (k : ℕ) → IsBytes xs → (i : ℕ) → i < 8 → slice_index (take 8 (drop k xs)) i < 256
byte_at xs k bytes i few = subst (λ (b : ℕ). b < 256) (sym (get_or-take 8 (drop k xs) i 0 few ∙ get_or-drop k xs i 0)) (bytes (k + i))

pub number_of_part : (k : ℕ) (xs : List ℕ) → IsBytes xs → from_le_bytes w64 (take 8 (drop k xs)) < 2 ^ 64
number_of_part k xs bytes =
    let b0 = byte_at xs k bytes 0 (omega arith) in
    let b1 = byte_at xs k bytes 1 (omega arith) in
    let b2 = byte_at xs k bytes 2 (omega arith) in
    let b3 = byte_at xs k bytes 3 (omega arith) in
    let b4 = byte_at xs k bytes 4 (omega arith) in
    let b5 = byte_at xs k bytes 5 (omega arith) in
    let b6 = byte_at xs k bytes 6 (omega arith) in
    let b7 = byte_at xs k bytes 7 (omega arith) in
    omega (arith, b0, b1, b2, b3, b4, b5, b6, b7)
