-- A world that makes steps, one after another.
use Rattle.std.specs.Prelude.{◌≡◌, List, [], ◌∷◌}
use Rattle.disk.specs.declared.disk.Disk.{Ghosts}
use Rattle.world.specs.Calls.{ForetellsAt}
use Rattle.world.specs.Follows.{Moves}
use Rattle.world.specs.Tells.{ConditionTellsRoom, LeavesImage}
use Rattle.world.specs.declared.answer.Answer.{Answer}
use Rattle.world.specs.declared.step.Step.{Step}
use Rattle.world.specs.declared.world.World.{World}

-- A world makes a step with this answer, and is that world then. For each course that it follows,
-- the answer is right and it goes on following; for everything known of the calls of its disk, the
-- answer is as foretold; the answer is right about the journal's room; and a crash leaves the image
-- that it names.
pub record MakesStep {D : Type 0} (disk : Ghosts D) (old : World D disk) (step : Step)
    (answer : Answer) (new : World D disk) : Type 0 where
  pub moves : Moves disk.state old step answer new
  pub calls : ForetellsAt disk.failures disk.outlook old.condition step answer new.condition
  pub room : ConditionTellsRoom disk.state old.condition step answer
  pub image : LeavesImage disk.state old.condition step new.condition

-- it makes these, each as the world that the one before made of it
abbrev pub MakesSteps : {D : Type 0} (disk : Ghosts D) → World D disk → List Step → List Answer
    → World D disk → Type 0
MakesSteps disk old [] [] new = new ≡ old
MakesSteps {D} disk old (step ∷ rest) (answer ∷ others) new =
    (between : World D disk) × (MakesStep disk old step answer between
    × MakesSteps disk between rest others new)
MakesSteps disk old rest others new = ⊥
