use Rattle.std.proofs.Common.{◌≡◌, ◌+◌, ◌++◌, ◌∷◌, ◌∙◌, List, [], ap, arith, inl, length, length-append, append_assoc, sym, ℕ}
use Rattle.std.proofs.lemmas.Bool.{false≢true}
use Rattle.devices.specs.declared.effect.Effect.{Effect}
use Rattle.gateway_wire.specs.Emission.{effect_frame}
use Rattle.lnsd_links.proofs.Together.{added_one, lost_one}
use Rattle.outbox.specs.Ring.{taken_from}
use Rattle.lnsd_links.proofs.gathering.gather.Goals as goal
use Rattle.lnsd_links.proofs.gathering.gather.Goals.{then-not-is_put, else-not-is_put}

pub loop-turn-preserved : goal.loop-turn-preserved
loop-turn-preserved c =
    let (effects, (bytes, (taken, (count, (out, together))))) = c.loop-turn.invariant.0 in
    let effect = c.in-Some.effect in
    let after = λ (es : List Effect). es ++ effect ∷ [] in
    let framed = λ (bs : List ℕ). bs ++ effect_frame effect in
    let taken' : taken_from c.take.new.self ≡ taken_from c.args.inlet.now ++ (effects ++ effect ∷ []) =
    c.in-Some.ensures.taken ∙ (ap after taken ∙ append_assoc _ effects (effect ∷ [])) in
    let count' : c.loop-turn.taken + 1 ≡ length (effects ++ effect ∷ []) = omega (arith, count, length-append effects (effect ∷ [])) in
    elim c.if-not-is_put.branch [
      | then-not-is_put w ↦ (
        (effects ++ effect ∷ [], (bytes, (taken', (count', ((rw w.if-not-is_put.true at c.is_put.ensures.framed) ∙ out, rw w.lost-is (lost_one c.args.name.now effects effect c.loop-turn.lost bytes together)))))),
        (omega (arith, c.loop-turn.invariant.1), omega (arith, w.lost-is, c.loop-turn.invariant.1)),
        λ broken. omega (arith, w.lost-is, c.loop-turn.invariant.2 broken),
      )
      | else-not-is_put w ↦ (
        (effects ++ effect ∷ [], (bytes ++ effect_frame effect, (taken', (count', ((rw w.if-not-is_put.false at c.is_put.ensures.framed).1 ∙ (ap framed out ∙ append_assoc _ bytes (effect_frame effect)), rw w.lost-is (added_one c.args.name.now effects effect c.loop-turn.lost bytes (rw w.if-not-is_put.false at c.is_put.ensures.framed).0 together)))))),
        (omega (arith, c.loop-turn.invariant.1), omega (arith, w.lost-is, c.loop-turn.invariant.1)),
        λ broken. absurd (false≢true (sym (c.is_put.ensures.broken broken) ∙ w.if-not-is_put.false)),
      )
    ]

pub returns-after-loop-turn-clause-enough : goal.returns-after-loop-turn-clause-enough
returns-after-loop-turn-clause-enough c =
    inl (omega (arith, c.loop-turn.invariant.1, c.loop-turn-test.false, c.loop-turn.auto._turn-end))
