-- The course of a world: what was decided, how far it is on its way to the disk, and what has left.
-- It follows from the steps and their answers alone.
use Rattle.std.specs.Prelude.{ℕ, zero, ◌+◌, ◌-◌, Bool, true, false, List, [], ◌∷◌, ◌++◌, length}
use Rattle.std.specs.Prelude.{take, drop, map, filter, max, nat_lt, ◌&&◌, if◌then◌else◌, Option}
use Rattle.std.specs.Prelude.{Some, None, Result, Ok, Err}
use Rattle.lw_types.specs.declared.refusal.Refusal.{Refusal}
use Rattle.lw_types.specs.declared.refusal.Refusal.TheVariants.{Backlog, OutOfMemory, OutOfStep}
use Rattle.lw_types.specs.declared.frame_copy.FrameCopy.{FrameCopy}
use Rattle.devices.specs.declared.command.Command.{Command}
use Rattle.devices.specs.declared.command.Command.TheVariants.{Heard}
use Rattle.devices.specs.declared.effect.Effect.{Effect}
use Rattle.devices.specs.declared.mark.Mark.{Mark}
use Rattle.sessions.specs.Table.{TableState, empty_table, fold_of, effects_of, step, TableStep}
use Rattle.dedup.specs.Groups.{Arrival, arrival, groups}
use Rattle.dedup.specs.Windows.{Window, window_of_group, heard_in, is_due}
use Rattle.session_core.specs.declared.decisions.TheConstants.{MOST_UNTAKEN, LAST_NUMBER}
use Rattle.store.specs.Flights.{Flight, Stage, all_failed, all_succeeded, in_flight}
use Rattle.world.specs.Links.{Piece}
use Rattle.world.specs.declared.answer.EventTurn.{EventTurn}
use Rattle.session_core.specs.declared.event.Event.{Event}
use Rattle.session_core.specs.declared.event.Event.TheVariants as events
use Rattle.world.specs.declared.step.Step.{Step}
use Rattle.world.specs.declared.step.Step.TheVariants as steps
use Rattle.world.specs.declared.answer.Answer.{Answer}
use Rattle.world.specs.declared.answer.Answer.TheVariants as answers

-- a checkpoint
pub data Checkpoint : Type 0 where
  -- none is under way
  NotUnderWay : Checkpoint
  -- this many of its device calls are left
  CallsLeft : ℕ → Checkpoint
  -- a device call of it failed
  CallFailed : Checkpoint

-- where a course begins: the table and the number of the store, and the marks that were used up
-- before
pub record Origin : Type 0 where
  pub table : TableState
  pub number : ℕ
  pub marks : List Mark

-- a store that was just formatted
abbrev pub new_store : ℕ → ℕ → Origin
new_store net_id slots = record { table = empty_table net_id slots; number = 0; marks = [] }

-- a store that existed, with the marks that were used up before
abbrev pub adopted_store : TableState → ℕ → List Mark → Origin
adopted_store t seq marks = record { table = t; number = seq; marks = marks }

-- the table, the number and the effects of these commands
abbrev pub table_from : Origin → List Command → TableState
table_from origin commands = fold_of origin.table commands

abbrev pub number_from : Origin → List Command → ℕ
number_from origin commands = origin.number + length commands

abbrev pub effects_from : Origin → List Command → List Effect
effects_from origin commands = effects_of origin.table commands

pub record Course : Type 0 where
  -- the commands whose batches were released, or that an opening found on the disk
  pub settled : List Command
  -- the batches under way, the oldest first
  pub flights : List (Flight Command)
  -- the checkpoint under way, beside which no batch is
  pub checkpoint : Checkpoint
  -- the commands that were taken in this life, and lost because memory ran out
  pub given_up : List Command
  -- those that wait
  pub untaken : List Command
  -- the number of commands that were decided in this life
  pub made : ℕ
  -- the effects that were released, over all lives
  pub left : List Effect
  -- the number of them that were emitted, or lost at a crash
  pub emitted : ℕ
  -- whether the store is open
  pub is_open : Bool
  -- the effective time of this life
  pub clock : ℕ
  -- the copies that were accepted in this life, with the effective times at which they came
  pub arrivals : List Arrival
  -- the number of their groups that were closed
  pub shut : ℕ
  -- the pieces that came over links in this life, in order
  pub pieces : List Piece

-- the course of a world that begins here
abbrev pub beginning : Origin → Course
beginning origin =
    record {
      settled = [];
      flights = [];
      checkpoint = NotUnderWay;
      given_up = [];
      untaken = [];
      made = 0;
      left = [];
      emitted = 0;
      is_open = true;
      clock = 0;
      arrivals = [];
      shut = 0;
      pieces = [];
    }

-- the decided commands
abbrev pub decided_commands : Course → List Command
decided_commands c = c.settled ++ (in_flight c.flights ++ (c.given_up ++ c.untaken))

-- whether there is room for one more command that waits, and a number for it
abbrev pub has_room : Origin → Course → Bool
has_room origin c =
    nat_lt (length c.untaken) MOST_UNTAKEN
    && nat_lt (number_from origin (decided_commands c)) LAST_NUMBER

-- what a command gets: while there is room, its step in the table after every decided command
abbrev pub step_if_room : Origin → Course → Command → Result TableStep Refusal
step_if_room origin c command =
    if has_room origin c then step (table_from origin (decided_commands c)) command else Err Backlog

-- a command that gets this is decided, or changes nothing
abbrev pub after_command : Course → Command → Result TableStep Refusal → Course
after_command c command (Ok s) = record c { untaken = c.untaken ++ command ∷ []; made = c.made + 1 }
after_command c command (Err e) = c

-- these commands are gone through
abbrev pub after_commands : Origin → Course → List Command → Course
after_commands origin c [] = c
after_commands origin c (command ∷ commands) =
    after_commands origin (after_command c command (step_if_room origin c command)) commands

-- the effective time never falls
abbrev pub at_moment : Course → ℕ → Course
at_moment c moment = record c { clock = max c.clock moment }

-- the windows that are open: of the groups that aren't closed
abbrev pub course_windows : Course → List Window
course_windows c = drop c.shut (map window_of_group (groups c.arrivals))

-- what was heard in a window, as a command
abbrev pub window_command : Window → Command
window_command window = Heard (heard_in window)

-- the frames whose windows are due, in the order of opening
abbrev pub due_frames : Course → List Command
due_frames c = map window_command (filter (is_due c.clock) (course_windows c))

-- the commands of an event, one after another: the frames whose windows are due, and then its own
abbrev pub commands_at : Course → Event → List Command
commands_at c (events.Ask command) = due_frames c ++ command ∷ []
commands_at c event = due_frames c

-- those of a step that is an event; a piece has events, one after another
abbrev pub step_commands : Course → Step → List Command
step_commands c (steps.Event moment event) = commands_at (at_moment c moment) event
step_commands c step = []

-- The number of them that were tried if `closings` windows were closed: their frames, and the
-- event's own command, unless there was no memory for it.
abbrev pub own_count : Option Refusal → ℕ
own_count (Some OutOfMemory) = 0
own_count refused = 1

abbrev pub handed_in_count : Event → Option Refusal → ℕ → ℕ
handed_in_count (events.Ask command) refused closings = closings + own_count refused
handed_in_count event refused closings = closings

-- `closings` more windows were closed
abbrev pub with_closings : ℕ → Course → Course
with_closings closings c = record c { shut = c.shut + closings }

-- a copy is accepted, if it wasn't refused
abbrev pub after_copy : FrameCopy → Option Refusal → Course → Course
after_copy copy None c = record c { arrivals = c.arrivals ++ arrival c.clock copy ∷ [] }
after_copy copy (Some refusal) c = c

abbrev pub after_own_copy : Event → Option Refusal → Course → Course
after_own_copy (events.Hear copy) refused c = after_copy copy refused c
after_own_copy event refused c = c

-- the course after an event at this moment, with this refusal of the event itself, if any, after
-- `closings` windows were closed
abbrev pub after_event : Origin → Course → ℕ → Event → Option Refusal → ℕ → Course
after_event origin c moment event refused closings =
    after_own_copy event refused
    (with_closings closings (after_commands origin (at_moment c moment)
    (take (handed_in_count event refused closings) (step_commands c (steps.Event moment event)))))

-- the same of several events at one moment
abbrev pub after_events : Origin → Course → ℕ → List EventTurn → Course
after_events origin c moment [] = c
after_events origin c moment (t ∷ turns) =
    after_events origin (after_event origin c moment t.event t.turn.refused t.closings) moment turns

-- these bytes come over a link
abbrev pub with_piece : Course → ℕ → List ℕ → Course
with_piece c link bytes =
    record c { pieces = c.pieces ++ record { link = link; bytes = bytes } ∷ [] }

-- the course after a piece with this answer
abbrev pub after_piece : Origin → Course → ℕ → ℕ → List ℕ → Answer → Course
after_piece origin c link moment bytes (answers.Turns turns fault) =
    after_events origin (with_piece c link bytes) moment turns.items
after_piece origin c link moment bytes answer = c

-- the oldest commands that wait become a batch, at most `most` of them
abbrev pub after_take : Course → ℕ → Course
after_take c most =
    record c {
      flights = c.flights ++ record { batch = take most c.untaken; stage = Stage.Begun } ∷ [];
      untaken = drop most c.untaken;
    }

-- or they are lost
abbrev pub after_give_up : Course → ℕ → Course
after_give_up c most =
    record c { given_up = c.given_up ++ take most c.untaken; untaken = drop most c.untaken }

-- the course after a take with this answer
abbrev pub after_answered_take : Course → ℕ → Answer → Course
after_answered_take c most (answers.Taken n) = after_take c most
after_answered_take c most (answers.GivenUp n) = after_give_up c most
after_answered_take c most (answers.Refused OutOfStep) = after_give_up c most
after_answered_take c most answer = c

-- a checkpoint of which this number of device calls are left
abbrev pub with_calls_left : ℕ → Checkpoint
with_calls_left zero = NotUnderWay
with_calls_left n = CallsLeft n

-- one of them succeeded
abbrev pub checkpoint_after_call : Checkpoint → Checkpoint
checkpoint_after_call (CallsLeft n) = with_calls_left (n - 1)
checkpoint_after_call checkpoint = checkpoint

-- or failed
abbrev pub checkpoint_after_failure : Checkpoint → Checkpoint
checkpoint_after_failure (CallsLeft n) = CallFailed
checkpoint_after_failure checkpoint = checkpoint

-- one device call of what is under way succeeded, or failed
abbrev pub after_call : Course → Course
after_call c =
    record c {
      flights = all_succeeded c.flights;
      checkpoint = checkpoint_after_call c.checkpoint;
    }

abbrev pub after_failed_call : Course → Course
after_failed_call c =
    record c {
      flights = all_failed c.flights;
      checkpoint = checkpoint_after_failure c.checkpoint;
    }

-- the oldest batch is released: its effects leave
abbrev pub after_release : Origin → Course → List (Flight Command) → Course
after_release origin c [] = c
after_release origin c (flight ∷ flights) =
    record c {
      settled = c.settled ++ flight.batch;
      flights = flights;
      left = c.left ++ effects_of (table_from origin c.settled) flight.batch;
    }

-- the decided list is cut to what was found on the disk, and what was released and not emitted is
-- lost
abbrev pub after_opening : Origin → Course → ℕ → Course
after_opening origin c seq =
    record c {
      settled = take (seq - origin.number) (decided_commands c);
      flights = [];
      checkpoint = NotUnderWay;
      given_up = [];
      untaken = [];
      made = 0;
      emitted = length c.left;
      is_open = true;
      clock = 0;
      arrivals = [];
      shut = 0;
      pieces = [];
    }

-- or the store stays closed
abbrev pub after_refused_opening : Course → Course
after_refused_opening c = record c { emitted = length c.left; is_open = false }

-- the course after a step with this answer
abbrev pub course_after : Origin → Course → Step → Answer → Course
course_after origin c (steps.Event moment event) (answers.Turn turn closings) =
    after_event origin c moment event turn.refused closings
course_after origin c (steps.Piece link moment bytes) answer =
    after_piece origin c link moment bytes.items answer
course_after origin c (steps.Take most) answer = after_answered_take c most answer
course_after origin c (steps.Next most) answer = after_answered_take c most answer
course_after origin c steps.Checkpoint (answers.Begun calls) =
    record c { checkpoint = CallsLeft calls }
course_after origin c steps.Call answers.Called = after_call c
course_after origin c steps.Call (answers.Refused e) = after_failed_call c
course_after origin c steps.Release (answers.Released n) = after_release origin c c.flights
course_after origin c steps.Emit (answers.Emitted e) = record c { emitted = c.emitted + 1 }
course_after origin c (steps.Crash image) (answers.Opened devices seq) = after_opening origin c seq
course_after origin c (steps.Crash image) (answers.Refused e) = after_refused_opening c
course_after origin c step answer = c

-- the course after these steps
abbrev pub course_of : Origin → Course → List Step → List Answer → Course
course_of origin c (step ∷ rest) (answer ∷ others) =
    course_of origin (course_after origin c step answer) rest others
course_of origin c rest others = c
