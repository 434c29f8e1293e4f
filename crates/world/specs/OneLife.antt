-- One life: from a new world on, with no crash among the steps.
use Rattle.std.specs.Prelude.{◌≡◌, ◌≤◌, List, [], ◌∷◌, length, take, map}
use Rattle.devices.specs.declared.effect.Effect.{Effect}
use Rattle.lw_types.specs.declared.refusal.Refusal.TheVariants.{OutOfStep}
use Rattle.gateway_wire.specs.declared.emission.Emission.{Emission}
use Rattle.gateway_wire.specs.Emission.{emission}
use Rattle.world.specs.declared.step.Step.{Step}
use Rattle.world.specs.declared.step.Step.TheVariants as steps
use Rattle.world.specs.declared.answer.Answer.{Answer}
use Rattle.world.specs.declared.answer.Answer.TheVariants as answers
use Rattle.world.specs.Course.{Origin, Course, effects_from}

-- no step is a crash
abbrev pub HasNoCrash : List Step → Type 0
HasNoCrash [] = Unit {0}
HasNoCrash (steps.Crash image ∷ rest) = ⊥
HasNoCrash (step ∷ rest) = HasNoCrash rest

-- no batch was lost because memory ran out
abbrev pub NoneGivenUp : List Answer → Type 0
NoneGivenUp [] = Unit {0}
NoneGivenUp (answers.GivenUp n ∷ rest) = ⊥
NoneGivenUp (answer ∷ rest) = NoneGivenUp rest

-- no take or next had the answer that its batch is out of step
abbrev pub NoneOutOfStep : List Step → List Answer → Type 0
NoneOutOfStep (steps.Take most ∷ rest) (answers.Refused OutOfStep ∷ others) = ⊥
NoneOutOfStep (steps.Next most ∷ rest) (answers.Refused OutOfStep ∷ others) = ⊥
NoneOutOfStep (step ∷ rest) (answer ∷ others) = NoneOutOfStep rest others
NoneOutOfStep rest others = Unit {0}

-- what was emitted, in order
abbrev pub emissions : List Answer → List Emission
emissions [] = []
emissions (answers.Emitted e ∷ rest) = e ∷ emissions rest
emissions (answer ∷ rest) = emissions rest

-- What one life gave. These effects left, which are those of the commands whose batches were
-- released, in order and complete. The first n of these were emitted, for some n. At most two
-- batches are begun and not released. No batch was out of step, unless one was lost.
pub record IsOneLife (origin : Origin) (c : Course) (effects : List Effect) (steps : List Step)
    (told : List Answer) : Type 0 where
  pub left : c.left ≡ effects
  pub released : c.left ≡ effects_from origin c.settled
  pub emitted : emissions told ≡ map emission (take c.emitted c.left)
  pub few : length c.flights ≤ 2
  pub in_step : NoneGivenUp told → NoneOutOfStep steps told
