-- A model of a world.
use Rattle.std.specs.Prelude.{◌≡◌, ◌++◌, ℕ, Bool, List, map, [], ◌∷◌, if◌then◌else◌, Option, Some}
use Rattle.std.specs.Prelude.{None, Result, MatchResult, true, false, length, take}
use Rattle.lw_types.specs.declared.refusal.Refusal.{Refusal}
use Rattle.devices.specs.declared.command.Command.{Command}
use Rattle.lw_types.specs.declared.refusal.Refusal.TheVariants.{DeviceFailed}
use Rattle.sessions.specs.Table.{TableStep, effects_of}
use Rattle.world.specs.declared.step.Step.{Step}
use Rattle.world.specs.declared.answer.Answer.{Answer}
use Rattle.world.specs.declared.answer.Answer.TheVariants as answers
use Rattle.world.specs.Calls.{CallRecord, IsForetold, calls_after}
use Rattle.world.specs.declared.answer.EventTurn.{EventTurn}
use Rattle.session_core.specs.declared.event.Event.{Event}
use Rattle.session_core.specs.declared.event.Event.TheVariants as events
use Rattle.store.specs.Flights.{Flight, Stage}
use Rattle.store.specs.Flights.Stage.{Begun, Written, BodySynced, GateWritten, Durable, Stopped}
use Rattle.store.specs.Flights.Stage.{Unsure}
use Rattle.world.specs.Course.{Checkpoint, Origin, Course, after_commands}
use Rattle.world.specs.Course.{course_after, after_copy, own_count, with_piece, after_events}
use Rattle.world.specs.Course.{table_from}
use Rattle.world.specs.Course.Checkpoint.{NotUnderWay, CallsLeft, CallFailed}
use Rattle.world.specs.Answers.{AnswersCall, AreTurns, Behind, Beside, IsRight}
use Rattle.world.specs.Answers.{event_of, last_stage}
use Rattle.world.specs.Links.{Completes, stream_on}
use Rattle.world_model.specs.declared.flight.PlainFlight.{PlainFlight}
use Rattle.world_model.specs.declared.flight.PlainStage.{PlainStage}
use Rattle.world_model.specs.declared.flight.PlainStage.TheVariants as variants
use Rattle.world_model.specs.declared.flight.PlainUnderWay.{PlainUnderWay}
use Rattle.world_model.specs.declared.flight.PlainUnderWay.TheVariants as ways

-- where the course begins, what is known of the disk's calls, and the course
pub record PlainState : Type 0 where
  pub origin : Origin
  pub calls : CallRecord
  pub course : Course

abbrev pub stage_of : PlainStage → Stage
stage_of variants.Begun = Begun
stage_of variants.Written = Written
stage_of variants.BodySynced = BodySynced
stage_of variants.GateWritten = GateWritten
stage_of variants.Durable = Durable
stage_of variants.Stopped = Stopped
stage_of variants.Unsure = Unsure

-- the batches that are begun, the oldest first
abbrev pub flight_of : PlainFlight → Flight Command
flight_of f = record { batch = f.commands.items; stage = stage_of f.stage }

abbrev pub flights_of : PlainUnderWay → List (Flight Command)
flights_of ways.Nothing = []
flights_of (ways.Batch f) = flight_of f ∷ []
flights_of (ways.Batches first second) = flight_of first ∷ flight_of second ∷ []
flights_of (ways.Checkpoint n) = []
flights_of ways.FailedCheckpoint = []

-- the checkpoint under way, if there is one
abbrev pub checkpoint_of : PlainUnderWay → Checkpoint
checkpoint_of ways.Nothing = NotUnderWay
checkpoint_of (ways.Batch f) = NotUnderWay
checkpoint_of (ways.Batches first second) = NotUnderWay
checkpoint_of (ways.Checkpoint n) = CallsLeft n
checkpoint_of ways.FailedCheckpoint = CallFailed

-- a step has a right answer, which is foretold, and the course after it is the one that follows
-- from the answer
abbrev pub Goes : PlainState → Step → Answer → PlainState → Type 0
Goes old step answer new =
    IsRight old.origin old.course step answer
    × (IsForetold old.calls step answer
    × (new ≡ record {
      origin = old.origin;
      calls = calls_after old.calls step answer;
      course = course_after old.origin old.course step answer;
    }))

-- the same at another place of its course
abbrev pub at_course : PlainState → Course → PlainState
at_course s c = record { origin = s.origin; calls = s.calls; course = c }

-- these events have right turns at one moment, one after another
abbrev pub GoesThrough : PlainState → ℕ → List Event → List EventTurn → PlainState → Type 0
GoesThrough old moment events turns new =
    (map event_of turns ≡ events)
    × (AreTurns old.origin old.course moment turns
    × (new ≡ at_course old (after_events old.origin old.course moment turns)))

-- and so have the events of a piece of a link's bytes
abbrev pub GoesPiece : PlainState → ℕ → ℕ → List ℕ → List EventTurn → Option Refusal → PlainState
    → Type 0
GoesPiece old link moment bytes turns fault new =
    Completes (stream_on link old.course.pieces) bytes (map event_of turns) fault
    × (AreTurns old.origin (with_piece old.course link bytes) moment turns
    × (new ≡ at_course old (after_events old.origin
    (with_piece old.course link bytes) moment turns)))

-- the course after the event itself, once the windows that are due are closed
abbrev pub own_after : Origin → Course → Event → Option Refusal → Course
own_after origin c (events.Hear copy) refused = after_copy copy refused c
own_after origin c events.Tick refused = c
own_after origin c (events.Ask command) refused =
    after_commands origin c (take (own_count refused) (command ∷ []))

-- why a command that gets this isn't decided, if it isn't
abbrev pub IsRefusal : Result TableStep Refusal → Option Refusal → Type 0
IsRefusal outcome refused = MatchResult outcome (λ _. refused ≡ None) (λ e. refused ≡ Some e)

-- what a crash leaves: the durable batches, with or without the one after them whose gate may be
-- open
abbrev pub left_at : Stage → List Command → List Command → List Command → List Command
left_at Durable there doubtful gone = there
left_at GateWritten there doubtful gone = doubtful
left_at Unsure there doubtful gone = doubtful
left_at stage there doubtful gone = gone

abbrev pub left_of : Bool → List Command → List (Flight Command) → List Command
left_of flew settled [] = settled
left_of flew settled (flight ∷ flights) =
    left_at flight.stage (left_of flew (settled ++ flight.batch) flights)
    (if flew then settled ++ flight.batch else settled) settled

abbrev pub kept_with : Bool → Course → List Command
kept_with flew c = left_of flew c.settled c.flights

-- the answer to a take or a checkpoint after a batch, or beside a checkpoint; nothing if neither is
-- under way
abbrev pub IsBusyBeside : Checkpoint → Option Answer → Type 0
IsBusyBeside checkpoint None = checkpoint ≡ NotUnderWay
IsBusyBeside checkpoint (Some answer) = Beside checkpoint ⊥ answer

abbrev pub IsBusyBehind : Stage → Option Answer → Type 0
IsBusyBehind stage None = ⊥
IsBusyBehind stage (Some answer) = Behind stage answer

abbrev pub IsBusy : List (Flight Command) → Checkpoint → Option Answer → Type 0
IsBusy [] checkpoint answer = IsBusyBeside checkpoint answer
IsBusy (flight ∷ flights) checkpoint answer = IsBusyBehind (last_stage flight flights) answer

-- whether a device call has to be made
abbrev pub HasCall : Bool → List (Flight Command) → Checkpoint → Type 0
HasCall true flights checkpoint =
    AnswersCall flights checkpoint answers.Called
    × AnswersCall flights checkpoint (answers.Refused DeviceFailed)
HasCall false flights checkpoint = AnswersCall flights checkpoint answers.Idle

-- the effects of these commands leave, in this number, and the commands are settled
abbrev pub Settles : PlainState → List Command → PlainState → ℕ → Type 0
Settles old commands new count =
    (count ≡ length (effects_of (table_from old.origin old.course.settled) commands))
    × (new ≡ at_course old (record old.course {
      settled = old.course.settled ++ commands;
      left = old.course.left ++ effects_of (table_from old.origin old.course.settled) commands;
    }))

-- a second batch is begun after the first
abbrev pub IsFollowed : PlainUnderWay → PlainFlight → PlainUnderWay → Type 0
IsFollowed (ways.Batch first) second result = result ≡ ways.Batches first second
IsFollowed other second result = result ≡ other
