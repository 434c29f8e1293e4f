-- the effects that were added and those that are left are all effects, and there is room for the
-- others and no less than before
use Rattle.std.proofs.Common.{◌≡◌, ◌++◌, ◌+◌, ◌≤◌, length, vec_capacity}
use Rattle.world.proofs.life.add.Given as goal

abbrev pub invariant-loop-effect : goal.invariant-loop-effect
invariant-loop-effect l =
    (l.released.items ++ l.effect-iterator.rest.items ≡ l.fn.released.items ++ l.fn.effects.items)
    × ((length l.released.items + length l.effect-iterator.rest.items ≤ vec_capacity l.released) × (vec_capacity l.fn.released ≤ vec_capacity l.released))
