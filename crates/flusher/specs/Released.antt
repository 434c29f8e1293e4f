-- Effects that leave.
use Rattle.std.specs.Prelude.{List, map, Vec}
use Rattle.std.specs.Global.{Global}
use Rattle.devices.specs.declared.effect.Effect.{Effect}
use Rattle.sessions.specs.declared.decision.Decision.{Decision}
use Rattle.flusher.specs.declared.durable.Durable.{Durable}
use Rattle.flusher.specs.declared.released.Released.{Released}

abbrev pub effect_of : Released → Effect
effect_of released = released.effect

abbrev pub effects_of_all : List Released → List Effect
effects_of_all released = map effect_of released

-- the effects in what a closure is given
abbrev pub effects_given : Vec Released Global → List Effect
effects_given released = effects_of_all released.items

-- how a closure, of which this is a step, goes on when it is given something and returns nothing
abbrev pub given_to : {C V : Type 0} → (C → V → Unit {0} → C → Type 0) → C → V → C → Type 0
given_to step before given after = step before given tt after

-- the decisions of a durable batch
abbrev pub decisions_of : Durable → List Decision
decisions_of durable = durable.batch
