-- the frames so far come before those of the windows that are left
use Rattle.std.proofs.Common.{◌≡◌, ◌++◌, drop, filter, map}
use Rattle.dedup.specs.Windows.{is_due}
use Rattle.world.specs.Course.{window_command}
use Rattle.world_model.proofs.gathering.due_frames.Given as goal

abbrev pub invariant-loop-window : goal.invariant-loop-window
invariant-loop-window l =
    l.frames.items ++ map window_command (filter (is_due l.clock) (drop l.window-index l.windows)) ≡ map window_command (filter (is_due l.clock) l.windows)
