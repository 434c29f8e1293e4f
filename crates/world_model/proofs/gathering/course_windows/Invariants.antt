-- the windows so far come before those of the copies that are left
use Rattle.std.proofs.Common.{◌≡◌, ◌-◌, ◌++◌, length, map}
use Rattle.dedup.specs.Groups.{first_groups, groups}
use Rattle.dedup.specs.Windows.{window_of_group}
use Rattle.world_model.proofs.gathering.course_windows.Given as goal

abbrev pub invariant-loop-round : goal.invariant-loop-round
invariant-loop-round l =
    l.windows.items ++ map window_of_group (first_groups (length l.arrivals - l._round) l.others.items) ≡ map window_of_group (groups l.arrivals)
