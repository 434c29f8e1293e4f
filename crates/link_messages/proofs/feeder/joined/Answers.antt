use Rattle.std.proofs.Common.{◌≡◌, ◌+◌, ◌++◌, ◌∙◌, ℕ, List, length, take, sym, ap, arith}
use Rattle.std.proofs.lemmas.List.{length-append, take_at}
use Rattle.std.proofs.lemmas.Slice.{take-put_mid}
use borrow.Rule.Slice.PartMut.{put_mid}
use Rattle.link_messages.proofs.feeder.joined.Goals as goal

-- the front of the buffer after both were written
written : (kept front one two rest : List ℕ) (k : ℕ) → one ≡ kept → two ≡ front
    → take (length kept + length front) (put_mid (length kept) k (one ++ rest) two) ≡ kept ++ front
written kept front one two rest k first second =
    let len = length-append one rest in
    let same : length one ≡ length kept = ap length first in
    take-put_mid (length kept) k (one ++ rest) two (length kept + length front) (ap (λ (l : List ℕ). length kept + length l) (sym second)) (omega (arith, len, same))
    ∙ (ap (λ (l : List ℕ). l ++ two) (take_at one rest (length kept) same ∙ first) ∙ ap (λ (l : List ℕ). kept ++ l) second)

pub returns : goal.returns
returns c =
    written c.args.kept.now c.args.front.now c.copy_from_slice.new.self c.copy_from_slice-2.new.self _ _ c.copy_from_slice.ensures.after c.copy_from_slice-2.ensures.after
