-- The events that have had their turns and those that are left are all events, and the turns lead
-- to the course.
use Rattle.std.proofs.Common.{◌≡◌, ◌++◌, map}
use Rattle.world.specs.Answers.{event_of}
use Rattle.world_model.specs.Plain.{at_course}
use Rattle.world_model.proofs.Piecing.{Leads}
use Rattle.world_model.proofs.model.Plain.turns_of.Given as goal

abbrev pub invariant-loop-event : goal.invariant-loop-event
invariant-loop-event l =
    (l.self ≡ at_course l.fn.self l.self.course)
    × (Leads l.fn.self l.moment l.turns.items l.self.course
    × (map event_of l.turns.items ++ l.event-iterator.rest.items ≡ l.fn.events.items))
