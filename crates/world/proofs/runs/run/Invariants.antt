-- The world is sound, each step so far has its right answer and led here, and there is room for the
-- other answers.
use Rattle.std.proofs.Common.{◌≡◌, ◌≤◌, length, take, vec_capacity}
use Rattle.world.specs.Calls.{ForetellsAll}
use Rattle.world.specs.Follows.{Runs}
use Rattle.world.specs.Sound.{IsSoundWorld}
use Rattle.world.specs.Stepping.{MakesSteps}
use Rattle.world.proofs.runs.run.Given as goal

abbrev pub invariant-loop-step : goal.invariant-loop-step
invariant-loop-step g l =
    let state = g.D.Disk.state in
    IsSoundWorld state l.world
    × (Runs state l.fn.world (take l.step-index l.steps) l.answers.items l.world
    × (ForetellsAll g.D.Disk.failures g.D.Disk.outlook l.fn.world.condition (take l.step-index l.steps) l.answers.items l.world.condition
    × (MakesSteps g.D.Disk l.fn.world (take l.step-index l.steps) l.answers.items l.world
    × ((length l.answers.items ≡ l.step-index) × (length l.steps ≤ vec_capacity l.answers)))))
