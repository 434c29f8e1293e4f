use Rattle.std.proofs.Common.{◌≡◌, ◌∙◌, ◌∷◌, ◌++◌, [], cond, is_ok, length, sym, ap, arith, length-append}
use Rattle.flusher.specs.Released.{effects_of_all}
use Rattle.flusher.proofs.Leaving.{one_more}
use Rattle.flusher.proofs.durable.release_one.Goals as goal

pub loop-effect-preserved : goal.loop-effect-preserved
loop-effect-preserved c =
    let out = c.loop-effect.out.items in
    let next = c.push-pushed.new.self.items in
    let front = c.in-Some.ensures.steps.0 in
    let added : next ≡ out ++ c.new.result ∷ [] =
    c.push-pushed.ensures.items ∙ ap (λ r. cond (is_ok r) (out ++ c.new.result ∷ []) out) c.unwrap.ensures in
    let size = ap length added ∙ length-append out (c.new.result ∷ []) in
    let shorter = ap length front in
    let room = c.loop-effect.invariant.1.0 in
    let grown = c.push-pushed.ensures.capacity in (
      one_more out next c.new.result c.loop-effect.effect-iterator.rest.items c.next.new.self.rest.items (effects_of_all c.args.out.now.items ++ c.args.decision.effects) added
          (front ∙ ap (λ e. e ∷ c.next.new.self.rest.items) (sym c.new.ensures)) c.loop-effect.invariant.0,
      (omega arith, omega (arith, c.loop-effect.invariant.1.1)),
    )

pub unwrap-requires : goal.unwrap-requires
unwrap-requires c =
    let shorter = ap length c.in-Some.ensures.steps.0 in
    c.push-pushed.ensures.succeeds (omega (arith, c.requires, c.loop-effect.invariant.1.0, c.loop-effect.invariant.1.1))
