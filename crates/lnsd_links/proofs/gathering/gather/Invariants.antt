use Rattle.std.proofs.Common.{◌≡◌, ◌≤◌, ◌++◌, ℕ, List, length}
use Rattle.std.specs.Prelude.{IsTrue}
use Rattle.devices.specs.declared.effect.Effect.{Effect}
use Rattle.lnsd_links.specs.Sending.{AreTogether}
use Rattle.outbox.specs.Ring.{taken_from}
use Rattle.lnsd_links.proofs.gathering.gather.Given as goal

abbrev pub invariant-loop-turn : goal.invariant-loop-turn
invariant-loop-turn l =
    ((effects : List Effect) × ((bytes : List ℕ)
    × ((taken_from l.inlet ≡ taken_from l.initial.inlet ++ effects)
    × ((l.taken ≡ length effects) × ((l.outgoing ≡ l.initial.outgoing ++ bytes)
    × AreTogether l.fn.name effects l.lost bytes)))))
    × ((l.taken ≡ l._turn) × (l.lost ≤ l._turn))
    × (IsTrue l.fn.is_broken → l.lost ≡ l.taken)
