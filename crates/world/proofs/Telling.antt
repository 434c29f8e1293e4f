-- What a step's answer says of the disk.
use Rattle.std.proofs.Common.{◌≡◌, ◌∙◌, ℕ, refl, sym}
use Rattle.disk.specs.State.{State}
use Rattle.store.specs.State.{disk_of}
use Rattle.world.specs.declared.condition.Condition.{Condition}
use Rattle.world.specs.declared.condition.Condition.TheVariants.{Open, Closed, Crashing}
use Rattle.world.specs.declared.step.Step.{Step}
use Rattle.world.specs.declared.step.Step.TheVariants as steps
use Rattle.world.specs.Follows.{IsOwn}
use Rattle.world.specs.Sound.{HasDisk, IsSoundCondition}
use Rattle.world.specs.Tells.{LeavesImage}

-- a condition has one disk
pub one_disk : {D : Type 0} {g : _} (condition : Condition D g) (a b : D) → HasDisk condition a → HasDisk condition b → a ≡ b
one_disk (Open life) a b first second = first ∙ sym second
one_disk (Closed d) a b first second = first ∙ sym second
one_disk Crashing a b first second = absurd first

-- and it has that, if it is sound
pub some_disk : {D : Type 0} {g : _} (state : D → State) (condition : Condition D g) (there fit : ℕ) → IsSoundCondition state condition there fit
    → (disk : D) × HasDisk condition disk
some_disk state (Open life) there fit sound = (disk_of life.store, refl)
some_disk state (Closed d) there fit sound = (d, refl)
some_disk state Crashing there fit sound = absurd sound

-- a step of a life alone is no crash
pub no_image : {D : Type 0} {g : _} (state : D → State) (old now : Condition D g) (step : Step) → IsOwn step → LeavesImage state old step now
no_image state old now (steps.Crash image) own = absurd own
no_image state old now step own = tt
