-- What a store was opened from.
use Rattle.std.specs.Prelude.{List, ℕ}
use Rattle.disk.specs.Crash.{IsCrashed}
use Rattle.disk.specs.State.{IsPermitted, State}
use Rattle.disk.specs.declared.disk.Disk.{Ghosts}
use Rattle.disk.specs.declared.sim.Image.{Image}
use Rattle.store.specs.State.{StoreState, IsOpened}
use Rattle.world.specs.Course.{Origin, beginning, course_of}
use Rattle.world.specs.Follows.{Follows, Survives}
use Rattle.world.specs.Sound.{HasDisk}
use Rattle.world.specs.Stepping.{MakesSteps}
use Rattle.world.specs.declared.answer.Answer.{Answer}
use Rattle.world.specs.declared.step.Step.{Step}
use Rattle.world.specs.declared.world.World.{World}

-- A disk crashed to this image, and the store was opened from what was left.
pub record IsOpenedOf (image : Image) (before : State) (store : StoreState) : Type 0 where
  pub left : List ℕ
  pub crashed : IsCrashed image before left
  pub permitted : IsPermitted before left
  pub opened : IsOpened left store

-- A world whose course began here made these steps, with these answers. Its disk then crashed to
-- this image, and the store was opened from what was left. Each image that a crash could have left
-- of that disk holds what the first n decided commands lead to, for some n, and every command whose
-- batch was released is among these.
pub record IsOpenedAfterCrash {D : Type 0} (laws : Ghosts D) (origin : Origin) (steps : List Step)
    (answers : List Answer) (image : Image) (store : StoreState) : Type 0 where
  pub first : World D laws
  pub begun : Follows laws.state origin (beginning origin) first
  pub last : World D laws
  pub made : MakesSteps laws first steps answers last
  pub disk : D
  pub at : HasDisk last.condition disk
  pub survives : Survives origin (course_of origin (beginning origin) steps answers)
      (laws.state disk)
  pub opened : IsOpenedOf image (laws.state disk) store
