-- Which answers are right in a course. `Calls.antt` says whether a call of the disk fails.
use Rattle.std.specs.Prelude.{◌≡◌, ◌≢◌, ◌≤◌, ◌⊎◌, ℕ, false, nat_lt, List, [], ◌∷◌, length}
use Rattle.std.specs.Prelude.{map, take, slice_get, Option, Some, None, MatchBool}
use Rattle.std.specs.Option.{MatchOption}
use Rattle.lw_types.specs.declared.refusal.Refusal.TheVariants as refusals
use Rattle.devices.specs.declared.command.Command.{Command}
use Rattle.sessions.specs.Table.{effects_of}
use Rattle.store.specs.Flights.{Flight, MayLeave, Stage}
use Rattle.store.specs.Flights.Stage.{GateWritten, Durable, Stopped, Unsure}
use Rattle.lw_types.specs.Answer.{AnswersWithMemory}
use Rattle.lw_types.specs.declared.refusal.Refusal.{Refusal}
use Rattle.lw_types.specs.declared.frame_copy.FrameCopy.{FrameCopy}
use Rattle.devices.specs.Heard.{IsReceivable}
use Rattle.dedup.specs.Windows.{windows_with}
use Rattle.sessions.specs.Decision.{AnswersTo}
use Rattle.session_core.specs.Deciding.{verdict_of}
use Rattle.session_core.specs.declared.turn.Turn.{Turn}
use Rattle.gateway_wire.specs.Emission.{emission}
use Rattle.world.specs.Links.{AddsNothing, Completes, stream_on}
use Rattle.world.specs.declared.answer.EventTurn.{EventTurn}
use Rattle.session_core.specs.declared.event.Event.{Event}
use Rattle.session_core.specs.declared.event.Event.TheVariants as events
use Rattle.world.specs.declared.step.Step.{Step}
use Rattle.world.specs.declared.step.Step.TheVariants as steps
use Rattle.world.specs.declared.answer.Answer.{Answer}
use Rattle.world.specs.declared.answer.Answer.TheVariants as answers
use Rattle.world.specs.Course.{Checkpoint, Origin, Course, after_commands}
use Rattle.world.specs.Course.{course_after, at_moment, decided_commands, due_frames, has_room}
use Rattle.world.specs.Course.{number_from, with_closings, table_from, with_piece, after_event}
use Rattle.world.specs.Course.{step_if_room, course_windows}
use Rattle.world.specs.Course.Checkpoint.{NotUnderWay, CallsLeft, CallFailed}

-- the answer to a command: it is decided, or refused as it has to be; a lack of room is noticed
-- before any memory is allocated
pub record IsAsked (origin : Origin) (c : Course) (command : Command)
    (refused : Option Refusal) : Type 0 where
  pub full : has_room origin c ≡ false → refused ≡ Some refusals.Backlog
  pub decided : AnswersTo command (step_if_room origin c command) (λ _ _. Unit {0})
      (verdict_of refused)

-- the answer to a copy: if it is on a channel at a data rate that a device may use, it is accepted,
-- or refused because of the groups that wait; otherwise it is refused as UnknownChannel; or memory
-- ran out
pub record IsCopyAnswer (c : Course) (copy : FrameCopy) (refused : Option Refusal) : Type 0 where
  pub receivable : IsReceivable copy.reception
      → AnswersWithMemory (windows_with (course_windows c) c.clock copy) (λ _ _. Unit {0})
      (verdict_of refused)
  pub unknown : ¬ (IsReceivable copy.reception)
      → (refused ≡ Some refusals.UnknownChannel) ⊎ (refused ≡ Some refusals.OutOfMemory)

-- the answer to the event itself, once the windows that are due are closed
abbrev pub IsOwnRight : Origin → Course → Event → Option Refusal → Type 0
IsOwnRight origin c (events.Hear copy) refused = IsCopyAnswer c copy refused
IsOwnRight origin c events.Tick refused = refused ≡ None
IsOwnRight origin c (events.Ask command) refused = IsAsked origin c command refused

-- The turn of an event at its moment: it counts the decisions of this life. The event itself is
-- answered if all windows that are due were closed; if fewer were, memory ran out.
pub record IsTurnAnswer (origin : Origin) (c : Course) (moment : ℕ) (event : Event) (turn : Turn)
    (closings : ℕ) : Type 0 where
  pub from : turn.from ≡ c.made
  pub to : turn.to ≡ (after_event origin c moment event turn.refused closings).made
  pub within : closings ≤ length (due_frames (at_moment c moment))
  pub own : MatchBool (nat_lt closings (length (due_frames (at_moment c moment))))
      (turn.refused ≡ Some refusals.OutOfMemory)
      (IsOwnRight origin (with_closings closings
      (after_commands origin (at_moment c moment)
      (take closings (due_frames (at_moment c moment))))) event turn.refused)

abbrev pub AnswersEvent : Origin → Course → ℕ → Event → Answer → Type 0
AnswersEvent origin c moment event (answers.Turn turn closings) =
    IsTurnAnswer origin c moment event turn closings
AnswersEvent origin c moment event answer = ⊥

-- the turns of several events at one moment
abbrev pub AreTurns : Origin → Course → ℕ → List EventTurn → Type 0
AreTurns origin c moment [] = Unit {0}
AreTurns origin c moment (t ∷ turns) =
    IsTurnAnswer origin c moment t.event t.turn t.closings
    × AreTurns origin (after_event origin c moment t.event t.turn.refused t.closings) moment
    turns

abbrev pub event_of : EventTurn → Event
event_of t = t.event

-- A piece of a link's bytes is answered by the turns of its events and by its fault; or nothing of
-- it counts, since there was no memory for it. One that adds nothing to what its link has said
-- needs no memory.
abbrev pub AnswersPiece : Origin → Course → ℕ → ℕ → List ℕ → Answer → Type 0
AnswersPiece origin c link moment bytes (answers.Turns turns fault) =
    Completes (stream_on link c.pieces) bytes (map event_of turns.items) fault
    × AreTurns origin (with_piece c link bytes) moment turns.items
AnswersPiece origin c link moment bytes (answers.Refused e) =
    (e ≡ refusals.OutOfMemory) × ¬ (AddsNothing (stream_on link c.pieces) bytes)
AnswersPiece origin c link moment bytes answer = ⊥

-- nothing is taken if nothing waits; a batch begins or is lost only if none was lost before, and is
-- out of step only if one was
abbrev pub Takes : Course → ℕ → Answer → Type 0
Takes c most answers.Idle = c.untaken ≡ []
Takes c most answers.Full = c.untaken ≢ []
Takes c most (answers.Taken n) =
    (c.untaken ≢ []) × ((c.given_up ≡ []) × (n ≡ length (take most c.untaken)))
Takes c most (answers.GivenUp n) =
    (c.untaken ≢ []) × ((c.given_up ≡ []) × (n ≡ length (take most c.untaken)))
Takes c most (answers.Refused e) =
    (c.untaken ≢ []) × ((e ≡ refusals.OutOfMemory) ⊎ ((e ≡ refusals.OutOfStep) × (c.given_up ≢ [])))
Takes c most answer = ⊥

-- a checkpoint begins, of this number of device calls; or memory ran out, or the live area has the
-- last generation
abbrev pub Checkpoints : Answer → Type 0
Checkpoints (answers.Begun calls) = (calls ≡ 4) ⊎ (calls ≡ 6)
Checkpoints (answers.Refused e) = (e ≡ refusals.OutOfMemory) ⊎ (e ≡ refusals.Damaged)
Checkpoints answer = ⊥

-- no batch is taken and no checkpoint begins beside a checkpoint, and none after a failed device
-- call
abbrev pub Beside : Checkpoint → Type 0 → Answer → Type 0
Beside NotUnderWay free answer = free
Beside (CallsLeft n) free answer = answer ≡ answers.Idle
Beside CallFailed free answer = answer ≡ answers.Refused refusals.Failed

-- how far the youngest of these batches is
abbrev pub last_stage : Flight Command → List (Flight Command) → Stage
last_stage flight [] = flight.stage
last_stage flight (next ∷ rest) = last_stage next rest

-- nor before the batches under way were released
abbrev pub Behind : Stage → Answer → Type 0
Behind Stopped answer = answer ≡ answers.Refused refusals.Failed
Behind Unsure answer = answer ≡ answers.Refused refusals.Failed
Behind stage answer = answer ≡ answers.Idle

abbrev pub AnswersTake : List (Flight Command) → Course → ℕ → Answer → Type 0
AnswersTake [] c most answer = Beside c.checkpoint (Takes c most answer) answer
AnswersTake (flight ∷ flights) c most answer = Behind (last_stage flight flights) answer

-- a batch is taken after the one that is begun, if that is the only one and its gate is written and
-- not synced
abbrev pub NextBehind : Stage → Type 0 → Answer → Type 0
NextBehind GateWritten free answer = free
NextBehind stage free answer = answer ≡ answers.Idle

abbrev pub AnswersNext : List (Flight Command) → Course → ℕ → Answer → Type 0
AnswersNext (flight ∷ []) c most answer = NextBehind flight.stage (Takes c most answer) answer
AnswersNext flights c most answer = answer ≡ answers.Idle

abbrev pub AnswersCheckpoint : List (Flight Command) → Checkpoint → Answer → Type 0
AnswersCheckpoint [] checkpoint answer = Beside checkpoint (Checkpoints answer) answer
AnswersCheckpoint (flight ∷ flights) checkpoint answer = Behind (last_stage flight flights) answer

-- one device call succeeds, or the device fails
abbrev pub IsCalled : Answer → Type 0
IsCalled answer = (answer ≡ answers.Called) ⊎ (answer ≡ answers.Refused refusals.DeviceFailed)

-- one of the youngest batch, and of the one before it
abbrev pub AnswersStage : Stage → Answer → Type 0
AnswersStage Durable answer = answer ≡ answers.Idle
AnswersStage Stopped answer = answer ≡ answers.Idle
AnswersStage Unsure answer = answer ≡ answers.Idle
AnswersStage stage answer = IsCalled answer

-- or of the checkpoint
abbrev pub CallsFor : Checkpoint → Answer → Type 0
CallsFor (CallsLeft n) answer = IsCalled answer
CallsFor checkpoint answer = answer ≡ answers.Idle

abbrev pub AnswersCall : List (Flight Command) → Checkpoint → Answer → Type 0
AnswersCall [] checkpoint answer = CallsFor checkpoint answer
AnswersCall (flight ∷ flights) checkpoint answer = AnswersStage (last_stage flight flights) answer

-- the oldest batch is released once it is durable
abbrev pub Releases : Stage → ℕ → Answer → Type 0
Releases Durable n answer = answer ≡ answers.Released n
Releases stage n answer = answer ≡ answers.Idle

abbrev pub AnswersRelease : Origin → Course → List (Flight Command) → Answer → Type 0
AnswersRelease origin c [] answer = answer ≡ answers.Idle
AnswersRelease origin c (flight ∷ flights) answer =
    Releases flight.stage (length (effects_of (table_from origin c.settled) flight.batch)) answer

abbrev pub AnswersList : Origin → Course → Answer → Type 0
AnswersList origin c answer =
    (answer ≡ answers.Listed (table_from origin (decided_commands c))
    (number_from origin (decided_commands c)))
    ⊎ (answer ≡ answers.Refused refusals.OutOfMemory)

-- the oldest effect that was released and not emitted leaves
abbrev pub AnswersEmit : Course → Answer → Type 0
AnswersEmit c answer =
    MatchOption (slice_get c.left c.emitted)
    (answer ≡ answers.Idle)
    (λ effect. (answer ≡ answers.Emitted (emission effect))
    ⊎ (answer ≡ answers.Refused refusals.OutOfMemory))

-- a crash leaves these
abbrev pub Leaves : Course → List Command → Type 0
Leaves c kept = MayLeave c.settled c.flights kept

-- the store was opened, with the table that such commands leave, or memory ran out, or the device
-- failed
abbrev pub AnswersCrash : Origin → Course → Answer → Type 0
AnswersCrash origin c (answers.Opened devices seq) =
    (kept : List Command) × Leaves c kept × (seq ≡ number_from origin kept)
    × (devices ≡ length (table_from origin kept).devices)
AnswersCrash origin c (answers.Refused e) = (e ≡ refusals.OutOfMemory) ⊎ (e ≡ refusals.DeviceFailed)
AnswersCrash origin c answer = ⊥

-- while the store is open
abbrev pub AnswersOpen : Origin → Course → Step → Answer → Type 0
AnswersOpen origin c (steps.Event moment event) answer = AnswersEvent origin c moment event answer
AnswersOpen origin c (steps.Piece link moment bytes) answer =
    AnswersPiece origin c link moment bytes.items answer
AnswersOpen origin c (steps.Take most) answer = AnswersTake c.flights c most answer
AnswersOpen origin c (steps.Next most) answer = AnswersNext c.flights c most answer
AnswersOpen origin c steps.Checkpoint answer = AnswersCheckpoint c.flights c.checkpoint answer
AnswersOpen origin c steps.Call answer = AnswersCall c.flights c.checkpoint answer
AnswersOpen origin c steps.Fail answer = answer ≡ answers.Armed
AnswersOpen origin c steps.Release answer = AnswersRelease origin c c.flights answer
AnswersOpen origin c steps.Emit answer = AnswersEmit c answer
AnswersOpen origin c steps.List answer = AnswersList origin c answer
AnswersOpen origin c (steps.Crash image) answer = AnswersCrash origin c answer

-- while it is closed, since an opening was refused, only a crash may open it
abbrev pub AnswersClosed : Origin → Course → Step → Answer → Type 0
AnswersClosed origin c steps.Emit answer = AnswersEmit c answer
AnswersClosed origin c (steps.Crash image) answer = AnswersCrash origin c answer
AnswersClosed origin c step answer = answer ≡ answers.Idle

-- the right answers to a step
abbrev pub IsRight : Origin → Course → Step → Answer → Type 0
IsRight origin c step answer =
    MatchBool c.is_open (AnswersOpen origin c step answer) (AnswersClosed origin c step answer)

-- one right answer to each step
abbrev pub AreRight : Origin → Course → List Step → List Answer → Type 0
AreRight origin c [] [] = Unit {0}
AreRight origin c (step ∷ rest) (answer ∷ others) =
    IsRight origin c step answer × AreRight origin (course_after origin c step answer) rest others
AreRight origin c rest others = ⊥
