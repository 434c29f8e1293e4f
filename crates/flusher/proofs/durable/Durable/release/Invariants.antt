-- the effects that were released and those of the remaining decisions are all effects, and there is
-- room for the others
use Rattle.std.proofs.Common.{◌≡◌, ◌≤◌, ◌+◌, ◌*◌, ◌++◌, length, vec_capacity}
use Rattle.sessions.specs.Decision.{effects_in}
use Rattle.flusher.specs.Released.{decisions_of, effects_of_all}
use Rattle.flusher.proofs.durable.Durable.release.Given as goal

abbrev pub invariant-loop-decision : goal.invariant-loop-decision
invariant-loop-decision l =
    (effects_of_all l.effects.items ++ effects_in l.decision-iterator.rest.items ≡ effects_in (decisions_of l.fn.self))
    × ((length l.effects.items + 4 * length l.decision-iterator.rest.items ≤ 256) × (256 ≤ vec_capacity l.effects))
