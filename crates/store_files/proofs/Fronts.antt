-- From what was read so far, and a piece more of it, to what was read then.
use Rattle.std.proofs.Common.{◌≡◌, ◌≢◌, ◌∙◌, ◌+◌, ◌-◌, ◌≤◌, ◌++◌, ℕ, List, Bool, true, false, length, length-append, take, drop, ap, ap₂, refl, sym, arith, nat_eq}
use Rattle.std.specs.Bool.{MatchBool}
use Rattle.std.specs.Cmp.Lexicographic.{pointwise, told_text}
use Rattle.std.proofs.Math.Seq.{take-add}
use Rattle.std.proofs.lemmas.List.{drop-take, take_at}
use Rattle.store_files.specs.Images.{AreFirstOf}

-- the next piece
pub read_more : (content image piece : List ℕ) (n : ℕ) → AreFirstOf content image → piece ≡ take n (drop (length image) content)
    → length piece ≡ n → AreFirstOf content (image ++ piece)
read_more content image piece n front more size =
    let total : length (image ++ piece) ≡ length image + n = length-append image piece ∙ ap (λ m. length image + m) size in
    ap₂ (λ a b. a ++ b) front more ∙ (sym (take-add (length image) n content) ∙ ap (λ m. take m content) (sym total))

-- a piece of it
pub piece_of : (content image bytes : List ℕ) (at : ℕ) → at + length bytes ≤ length image → AreFirstOf content image
    → bytes ≡ take (length bytes) (drop at content) → take (length bytes) (drop at image) ≡ bytes
piece_of content image bytes at within front is =
    let k = length bytes in
    let r = length image - (at + k) in
    let total : length image ≡ at + (k + r) = omega (arith, within) in
    let whole : image ≡ take (at + (k + r)) content = front ∙ ap (λ n. take n content) total in
    let rest : drop at image ≡ take k (drop at content) ++ take r (drop k (drop at content)) =
    ap (drop at) whole ∙ (drop-take at (k + r) content ∙ take-add k r (drop at content)) in
    ap (take k) rest ∙ (take_at (take k (drop at content)) (take r (drop k (drop at content))) k (sym (ap length is)) ∙ sym is)

-- what a comparison of equal bytes says
pub told_true : (xs ys : List ℕ) (r : Bool) → r ≡ pointwise nat_eq xs ys → xs ≡ ys → r ≡ true
told_true xs ys r e same = go r (told_text xs ys r e)
  where
    go : (r : Bool) → MatchBool r (xs ≡ ys) (xs ≢ ys) → r ≡ true
    go true h = refl
    go false h = absurd (h same)

-- and whether these are the bytes of a piece
pub told_piece : (xs ys zs : List ℕ) (r : Bool) → r ≡ pointwise nat_eq xs ys → xs ≡ zs → MatchBool r (ys ≡ zs) (ys ≢ zs)
told_piece xs ys zs r e same = go r (told_text xs ys r e)
  where
    go : (r : Bool) → MatchBool r (xs ≡ ys) (xs ≢ ys) → MatchBool r (ys ≡ zs) (ys ≢ zs)
    go true h = sym h ∙ same
    go false h = λ is. h (same ∙ sym is)
