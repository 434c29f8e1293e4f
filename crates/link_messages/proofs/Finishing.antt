-- The first frame of a stream, and the bytes that finish one of which some were kept.
use Rattle.std.proofs.Common.{◌≡◌, ℕ, zero, suc, ◌+◌, ◌-◌, ◌<◌, ◌≤◌, List, [], ◌∷◌, ◌++◌, length, take, drop, min, Option, Some, None, Ok, refl, sym, ap, subst, ◌∙◌, arith, inl, inr, MatchOption}
use Rattle.std.specs.Int.{w16, to_be_bytes, from_be_bytes}
use Rattle.std.specs.List.{IsSplitAt}
use Rattle.std.proofs.Math.Seq.{take-length}
use Rattle.std.proofs.lemmas.Bool.{cases_lt}
use Rattle.std.proofs.lemmas.Nat.{be_bytes_2}
use Rattle.std.proofs.lemmas.List.{append-nil, nil_from_length, length-take, length-drop, length-append}
use denote.Ref.{Bor}
use Rattle.lw_types.specs.Hex.{IsBytes}
use Rattle.link_messages.specs.Wire.{wire_frame}
use Rattle.link_messages.specs.Stream.{IsFrame, IsPart, stated_length}
use Rattle.link_messages.specs.Steps.{IsFirstFrame, Finishes}
use Rattle.link_messages.proofs.OneSaying.{frame_is}
use Rattle.link_messages.proofs.StreamLaws.{some_same}

pub begins : (stream : List ℕ) (told : ℕ) (o : Option (Bor (List ℕ) × Bor (List ℕ))) → IsBytes stream → stated_length stream ≡ Some told → told ≤ 700
    → MatchOption o (length (drop 2 stream) < told) (λ p. IsSplitAt (drop 2 stream) told p.0.now p.1.now) → IsFirstFrame stream (Ok o)
begins [] told o fits is few split = absurd cc
begins (high ∷ []) told o fits is few split = absurd cc
begins (high ∷ low ∷ rest) told None fits is few split =
    let e = some_same (from_be_bytes w16 (high ∷ low ∷ [])) told is in (omega arith, omega arith)
begins (high ∷ low ∷ rest) told (Some p) fits is few split =
    let e = some_same (from_be_bytes w16 (high ∷ low ∷ [])) told is in
    subst (λ (content : List ℕ). IsFrame (high ∷ low ∷ rest) content p.1.now) (sym split.1)
    (subst (λ (behind : List ℕ). IsFrame (high ∷ low ∷ rest) (take told rest) behind) (sym split.2) (frame_is high low rest told fits (sym e) few split.0))

-- the bytes after the first two, as the code cuts them
pub begins_cut : (stream : List ℕ) (told : ℕ) (o : Option (Bor (List ℕ) × Bor (List ℕ))) → IsBytes stream → stated_length stream ≡ Some told → told ≤ 700
    → MatchOption o (length (take (length stream - 2) (drop 2 stream)) < told) (λ p. IsSplitAt (take (length stream - 2) (drop 2 stream)) told p.0.now p.1.now) → IsFirstFrame stream (Ok o)
begins_cut stream told o fits is few split =
    let all : take (length stream - 2) (drop 2 stream) ≡ drop 2 stream = ap (λ (n : ℕ). take n (drop 2 stream)) (sym (length-drop 2 stream)) ∙ take-length (drop 2 stream) in
    begins stream told o fits is few (subst (λ (xs : List ℕ). MatchOption o (length xs < told) (λ p. IsSplitAt xs told p.0.now p.1.now)) all split)

frame_whole : (high low : ℕ) (body : List ℕ) → (high < 256) → (low < 256) → length body ≡ from_be_bytes w16 (high ∷ low ∷ []) → length body ≤ 700
    → IsFrame (high ∷ low ∷ body) body []
frame_whole high low body fits_high fits_low is few =
    let head : to_be_bytes w16 (length body) ≡ high ∷ low ∷ [] = be_bytes_2 (high ∷ low ∷ []) (length body) refl (two high low fits_high fits_low) is in
    (few, ap (λ (h : List ℕ). h ++ body) (sym head) ∙ sym (append-nil (wire_frame body)))
  where
    two : (high low : ℕ) → (high < 256) → (low < 256) → IsBytes (high ∷ low ∷ [])
    two high low a b zero = a
    two high low a b (suc zero) = b
    two high low a b (suc (suc i)) = omega arith

-- a frame of which this many bytes were there
finishes_more : (high low : ℕ) (rest piece : List ℕ) (told n : ℕ) → (high < 256) → (low < 256) → told ≡ from_be_bytes w16 (high ∷ low ∷ []) → told ≤ 700
    → length rest ≤ told → n ≡ min (told - length rest) (length piece) → Finishes (high ∷ low ∷ (rest ++ take n piece)) (drop n piece)
finishes_more high low rest piece told n fits_high fits_low is few within at =
    let len = length-append rest (take n piece) in
    let taken = length-take n piece in
    let left = length-drop n piece in
    elim (cases_lt (length piece) (told - length rest)) [
      | inl short ↦
          let none : drop n piece ≡ [] = nil_from_length (drop n piece) (omega arith) in
          elim (cases_lt (length (rest ++ take n piece)) told) [
            | inl lt ↦ inl ((omega arith, omega arith), none)
            | inr le ↦ absurd (omega arith)
          ]
      | inr whole ↦
          let all : length (rest ++ take n piece) ≡ told = omega arith in
          inr (inr (rest ++ take n piece, frame_whole high low (rest ++ take n piece) fits_high fits_low (all ∙ is) (omega arith)))
    ]

pub finishes_none : (kept piece : List ℕ) → 0 < length kept → stated_length (kept ++ piece) ≡ None → Finishes (kept ++ take 0 piece) (drop 0 piece)
finishes_none [] piece some none = absurd (omega arith)
finishes_none (high ∷ []) [] some none = inl (tt, refl)
finishes_none (high ∷ []) (low ∷ piece) some none = absurd cc
finishes_none (high ∷ low ∷ kept) piece some none = absurd cc

pub finishes_long : (kept piece : List ℕ) (told n : ℕ) → 0 < length kept → IsPart kept → stated_length (kept ++ piece) ≡ Some told → 700 < told
    → n ≡ min (2 - length kept) (length piece) → Finishes (kept ++ take n piece) (drop n piece)
finishes_long [] piece told n some part is long at = absurd (omega arith)
finishes_long (high ∷ []) [] told n some part is long at = absurd cc
finishes_long (high ∷ []) (low ∷ piece) told n some part is long at =
    let one : n ≡ 1 = omega arith in
    subst (λ (k : ℕ). Finishes ((high ∷ []) ++ take k (low ∷ piece)) (drop k (low ∷ piece))) (sym one) (inr (inl (told, is, long)))
finishes_long (high ∷ low ∷ kept) piece told n some part is long at =
    let e = some_same (from_be_bytes w16 (high ∷ low ∷ [])) told is in absurd (omega (arith, part.0))

pub finishes_some : (kept piece : List ℕ) (told n : ℕ) → IsBytes kept → IsBytes piece → 0 < length kept → IsPart kept → stated_length (kept ++ piece) ≡ Some told → told ≤ 700
    → n ≡ min ((2 + told) - length kept) (length piece) → Finishes (kept ++ take n piece) (drop n piece)
finishes_some [] piece told n fits_kept fits some part is few at = absurd (omega arith)
finishes_some (high ∷ []) [] told n fits_kept fits some part is few at = absurd cc
finishes_some (high ∷ []) (low ∷ piece) told n fits_kept fits some part is few at =
    let e = some_same (from_be_bytes w16 (high ∷ low ∷ [])) told is in
    let more : n ≡ suc (min (told - 0) (length piece)) = omega arith in
    subst (λ (k : ℕ). Finishes ((high ∷ []) ++ take k (low ∷ piece)) (drop k (low ∷ piece))) (sym more)
    (finishes_more high low [] piece told (min (told - 0) (length piece)) (fits_kept 0) (fits 0) (sym e) few (omega arith) refl)
finishes_some (high ∷ low ∷ kept) piece told n fits_kept fits some part is few at =
    let e = some_same (from_be_bytes w16 (high ∷ low ∷ [])) told is in
    finishes_more high low kept piece told n (fits_kept 0) (fits_kept 1) (sym e) few (omega (arith, part.1)) (at ∙ omega arith)
