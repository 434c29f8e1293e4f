-- this number of copies that joined are heard
use Rattle.std.proofs.Common.{◌≡◌, ◌∷◌, map, take}
use Rattle.dedup.specs.Windows.{hearing_of}
use Rattle.world_model.proofs.gathering.PlainWindow.of.Given as goal

abbrev pub invariant-loop-arrival : goal.invariant-loop-arrival
invariant-loop-arrival l = l.hearings.items ≡ hearing_of l.first.copy ∷ map (λ a. hearing_of a.copy) (take l.arrival-index l.joined)
