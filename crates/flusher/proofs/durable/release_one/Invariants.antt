-- the effects that were added and those that are left are all effects, and there is room for the
-- others
use Rattle.std.proofs.Common.{◌≡◌, ◌≤◌, ◌+◌, ◌++◌, length, vec_capacity}
use Rattle.flusher.specs.Released.{effects_of_all}
use Rattle.flusher.proofs.durable.release_one.Given as goal

abbrev pub invariant-loop-effect : goal.invariant-loop-effect
invariant-loop-effect l =
    (effects_of_all l.out.items ++ l.effect-iterator.rest.items ≡ effects_of_all l.fn.out.items ++ l.fn.decision.effects)
    × ((length l.out.items + length l.effect-iterator.rest.items ≤ length l.fn.out.items + 4) × (vec_capacity l.fn.out ≤ vec_capacity l.out))
