-- only the course has moved, and the commands that are left do to it what all of them do to the
-- first one
use Rattle.std.proofs.Common.{◌≡◌, drop}
use Rattle.world.specs.Course.{after_commands}
use Rattle.world_model.specs.Plain.{at_course}
use Rattle.world_model.proofs.model.Plain.admit_all.Given as goal

abbrev pub invariant-loop-command : goal.invariant-loop-command
invariant-loop-command l =
    (l.self ≡ at_course l.fn.self l.self.course)
    × (after_commands l.fn.self.origin l.self.course (drop l.command-index l.commands) ≡ after_commands l.fn.self.origin l.fn.self.course l.commands)
