-- What a life has begun and not released.
use Rattle.std.specs.Prelude.{◌≡◌, ◌⊎◌, List, [], ◌∷◌, ◌++◌, Option, Some, None, length, map}
use Rattle.lw_types.specs.declared.refusal.Refusal.TheVariants as refusals
use Rattle.devices.specs.declared.command.Command.{Command}
use Rattle.flusher.specs.Released.{decisions_of}
use Rattle.flusher.specs.declared.durable.Durable.{Durable}
use Rattle.flusher.specs.declared.room.Room.{Room}
use Rattle.sessions.specs.Decision.{FitAll, commands_of, with_decisions}
use Rattle.sessions.specs.Table.{TableState}
use Rattle.sessions.specs.declared.decision.Decision.{Decision}
use Rattle.store.specs.Flights.{Flight, Stage}
use Rattle.store.specs.Phases.{durable_decisions}
use Rattle.store.specs.State.{StoreState, IsSettled}
use Rattle.store.specs.UnderWay.{IsOnDisk, IsOnItsWay, checkpoint_calls, flight, flights_in}
use Rattle.store.specs.declared.under_way.Called.{Called}
use Rattle.store.specs.declared.under_way.Called.TheVariants as calls
use Rattle.store.specs.declared.phases.GateWritten.{GateWritten}
use Rattle.store.specs.declared.under_way.UnderWay.TheVariants as ways
use Rattle.world.specs.Course.{Checkpoint, with_calls_left}
use Rattle.world.specs.Course.Checkpoint.{NotUnderWay}
use Rattle.world.specs.declared.answer.Answer.{Answer}
use Rattle.world.specs.declared.answer.Answer.TheVariants as answers
use Rattle.world.specs.declared.commit.LastCommit.{LastCommit}
use Rattle.world.specs.declared.commit.LastCommit.TheVariants.{Idle, Failed, UnderWay}
use Rattle.world.specs.declared.commit.LastCommit.TheVariants.{Durable as Done}
use Rattle.world.specs.declared.commit.Pipeline.{Pipeline}

-- nothing is begun
abbrev pub at_rest : Pipeline
at_rest = record { ahead = None; last = Idle }

-- one commit, with none ahead of it
abbrev pub alone : LastCommit → Pipeline
alone commit = record { ahead = None; last = commit }

-- a batch whose gate is written and not synced, and no other
abbrev pub at_gate : GateWritten → Room → Pipeline
at_gate opened room = alone (UnderWay (ways.GateWritten opened room))

abbrev pub IsNoGate : Option Durable → LastCommit → Type 0
IsNoGate None (UnderWay (ways.GateWritten opened room)) = ⊥
IsNoGate ahead commit = Unit {0}

-- there is none
pub record HasNoGate (old new : Pipeline) : Type 0 where
  pub same : new ≡ old
  pub none : IsNoGate old.ahead old.last

-- or it is this one, and is taken out
abbrev pub GivesGate : Pipeline → GateWritten → Room → Pipeline → Type 0
GivesGate old opened room new = (old ≡ at_gate opened room) × (new ≡ at_rest)

-- the batch that is ahead
abbrev pub flights_ahead : Option Durable → List (Flight Decision)
flights_ahead None = []
flights_ahead (Some durable) = flight Stage.Durable (decisions_of durable) ∷ []

-- those of the last commit, if it hasn't failed
abbrev pub flights_last : LastCommit → List (Flight Decision)
flights_last (UnderWay under_way) = flights_in under_way
flights_last (Done durable) = flight Stage.Durable (decisions_of durable) ∷ []
flights_last commit = []

-- all of them, the oldest first
abbrev pub flights_begun : Pipeline → List (Flight Decision)
flights_begun commits = flights_ahead commits.ahead ++ flights_last commits.last

-- the same of commands
abbrev pub flight_of : Flight Decision → Flight Command
flight_of f = record { batch = commands_of f.batch; stage = f.stage }

abbrev pub flights_of : List (Flight Decision) → List (Flight Command)
flights_of flights = map flight_of flights

-- the commands that are settled once the batch ahead is released
abbrev pub settled_ahead : List Command → Option Durable → List Command
settled_ahead settled None = settled
settled_ahead settled (Some durable) = settled ++ commands_of (decisions_of durable)

-- each batch was made from the table that those before it leave
abbrev pub FitFlights : TableState → List (Flight Decision) → Type 0
FitFlights t [] = Unit {0}
FitFlights t (f ∷ flights) =
    FitAll t f.batch × FitFlights (with_decisions t f.batch) flights

-- the checkpoint under way
abbrev pub checkpoint_in : StoreState → LastCommit → Checkpoint
checkpoint_in s (UnderWay under_way) = with_calls_left (checkpoint_calls s under_way)
checkpoint_in s commit = NotUnderWay

-- what the store's disk holds of the last commit
abbrev pub IsOn : StoreState → LastCommit → Type 0
IsOn s (UnderWay under_way) = IsOnDisk s under_way
IsOn s Failed = ⊥
IsOn s commit = IsSettled s

-- it is the store's
abbrev pub MayGoOn : StoreState → LastCommit → Type 0
MayGoOn s (UnderWay under_way) = IsOnItsWay s under_way
MayGoOn s commit = Unit {0}

-- a batch is ahead of only one batch
abbrev pub IsBehind : Option Durable → LastCommit → Type 0
IsBehind None commit = Unit {0}
IsBehind (Some durable) Failed = Unit {0}
IsBehind (Some durable) commit = length (flights_last commit) ≡ 1

-- no batch is ahead of one that became durable before another one
abbrev pub IsAlone : Option Durable → Called Room → Type 0
IsAlone ahead (calls.Durable durable room (Some next)) = ahead ≡ None
IsAlone ahead called = Unit {0}

-- The last commit continues with what a device call led to. A batch that is durable keeps its
-- decisions, and is ahead of what is under way after it.
abbrev pub GoesOn : Option Durable → Called Room → Pipeline → Type 0
GoesOn ahead (calls.UnderWay next) new = new ≡ record { ahead = ahead; last = UnderWay next }
GoesOn ahead (calls.Durable durable room None) new =
    (done : Durable) × (decisions_of done ≡ durable_decisions durable)
    × (new ≡ record { ahead = ahead; last = Done done })
GoesOn ahead (calls.Durable durable room (Some next)) new =
    (done : Durable) × (decisions_of done ≡ durable_decisions durable)
    × (new ≡ record { ahead = Some done; last = UnderWay next })
GoesOn ahead calls.Published new = new ≡ record { ahead = ahead; last = Idle }

-- what is returned if nothing may begin
abbrev pub HindersLast : LastCommit → Answer → Type 0
HindersLast Failed answer = answer ≡ answers.Refused refusals.Failed
HindersLast commit answer = answer ≡ answers.Idle

pub record Hinders (commits : Pipeline) (answer : Answer) : Type 0 where
  pub begun : commits ≡ at_rest → ⊥
  pub answered : HindersLast commits.last answer

-- the last commit isn't durable
abbrev pub IsUnfinished : LastCommit → Type 0
IsUnfinished (Done durable) = ⊥
IsUnfinished commit = Unit {0}

-- the oldest batch isn't durable
pub record KeepsAll (old new : Pipeline) : Type 0 where
  pub same : new ≡ old
  pub none_ahead : old.ahead ≡ None
  pub unfinished : IsUnfinished old.last

-- it is this one, and is taken out
abbrev pub GivesOldest : Pipeline → Durable → Pipeline → Type 0
GivesOldest old durable new =
    ((old.ahead ≡ Some durable) × (new ≡ record old { ahead = None }))
    ⊎ ((old ≡ record { ahead = None; last = Done durable }) × (new ≡ at_rest))
