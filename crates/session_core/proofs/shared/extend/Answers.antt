use Rattle.std.proofs.Common.{◌≡◌, ◌+◌, ◌∷◌, ◌++◌, ◌∙◌, [], arith, length, ap, refl}
use Rattle.std.proofs.lemmas.List.{length_push}
use Rattle.session_core.proofs.Extending.{one_more_kept}
use Rattle.session_core.proofs.shared.extend.Goals as goal

pub loop-place-preserved : goal.loop-place-preserved
loop-place-preserved g c =
    let (kept, (len, within)) = c.loop-place.invariant in
    let s = c.args.core.now.decisions in
    let added : c.add.new.self ≡ c.loop-place.history ++ c.waiting.result.now ∷ [] = c.if-not-add.ensures.added refl in
    let more : length c.add.new.self ≡ length c.loop-place.history + 1 = ap length added ∙ length_push _ _ in
    let there = c.loop-place-test.true in
    let end = c.untaken-place-end.ensures.count in (
      one_more_kept s.taken c.loop-place.place c.loop-place.history c.add.new.self s.log c.waiting.result.now kept (omega (arith, len)) c.waiting.ensures added,
      (omega (arith, more, len), omega (arith, there, end)),
    )
