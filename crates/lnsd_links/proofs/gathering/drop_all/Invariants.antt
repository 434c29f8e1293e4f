use Rattle.std.proofs.Common.{◌≡◌, ◌++◌, List, length}
use Rattle.devices.specs.declared.effect.Effect.{Effect}
use Rattle.outbox.specs.Ring.{taken_from}
use Rattle.lnsd_links.proofs.gathering.drop_all.Given as goal

abbrev pub invariant-loop-turn : goal.invariant-loop-turn
invariant-loop-turn l =
    ((effects : List Effect) × ((taken_from l.inlet ≡ taken_from l.initial.inlet ++ effects)
    × (l.taken ≡ length effects))) × (l.taken ≡ l._turn)
