-- What a world is at a point of its course.
use Rattle.std.specs.Prelude.{◌≡◌, ◌+◌, ◌⊎◌, ℕ, true, false, List, [], ◌∷◌, ◌++◌, Option, None}
use Rattle.devices.specs.declared.command.Command.{Command}
use Rattle.dedup.specs.Windows.{StandFor}
use Rattle.session_core.specs.State.{DecisionsState}
use Rattle.session_core.specs.Core.{CoreState}
use Rattle.disk.specs.declared.sim.Image.{Image}
use Rattle.disk.specs.State.{State, NothingOpen, EveryImage}
use Rattle.flusher.specs.declared.durable.Durable.{Durable}
use Rattle.flusher.specs.declared.released.Released.{Released}
use Rattle.sessions.specs.Table.{TableState}
use Rattle.sessions.specs.Decision.{commands_of}
use Rattle.sessions.specs.Marks.{IsSubsequence}
use Rattle.store.specs.Flights.{Flight, durable_in, in_flight}
use Rattle.store.specs.Flights.Stage.{Stopped, Unsure}
use Rattle.store.specs.Image.{HoldsTable}
use Rattle.store.specs.State.{StoreState, store_state}
use Rattle.store.specs.declared.store.Store.{Store}
use Rattle.flusher.specs.Released.{effects_of_all}
use Rattle.world.specs.Links.{HasSaid, heard_on, stream_on}
use Rattle.world.specs.declared.links.Links.{Links}
use Rattle.world.specs.declared.commit.LastCommit.{LastCommit}
use Rattle.world.specs.declared.commit.LastCommit.TheVariants as commits
use Rattle.world.specs.declared.commit.Pipeline.{Pipeline}
use Rattle.world.specs.declared.life.Life.{Life}
use Rattle.world.specs.declared.condition.Condition.{Condition}
use Rattle.world.specs.declared.condition.Condition.TheVariants.{Open, Closed, Crashing}
use Rattle.world.specs.declared.world.World.{World}
use Rattle.world.specs.declared.answer.EventTurn.{EventTurn}
use Rattle.world.specs.declared.step.Step.{Step}
use Rattle.world.specs.declared.step.Step.TheVariants as steps
use Rattle.world.specs.declared.answer.Answer.{Answer}
use Rattle.world.specs.Course.{Checkpoint, Origin, Course, table_from, number_from}
use Rattle.world.specs.Course.{effects_from, course_after, course_of}
use Rattle.world.specs.Course.{after_piece, after_events}
use Rattle.world.specs.Course.Checkpoint.{CallFailed, NotUnderWay}
use Rattle.world.specs.Answers.{Leaves, AnswersOpen, AnswersCrash, AnswersPiece, IsRight, AreRight}
use Rattle.world.specs.Answers.{AreTurns}
use Rattle.world.specs.Commits.{FitFlights, IsOn, checkpoint_in, flights_ahead, flights_last}
use Rattle.world.specs.Commits.{flights_of, settled_ahead}

-- each image that a crash may leave of this disk holds the table and the number of commands that a
-- crash may leave
abbrev pub Survives : Origin → Course → State → Type 0
Survives origin c state =
    EveryImage state (λ image. (kept : List Command) × Leaves c kept
    × HoldsTable (table_from origin kept) (number_from origin kept) image)

-- those that were taken from the log of the core
abbrev pub taken_commands : Course → List Command
taken_commands c = c.settled ++ (in_flight c.flights ++ c.given_up)

-- a call of the batches after the one that is ahead failed, or of the checkpoint
abbrev pub HasFailed : List (Flight Command) → Option Durable → Checkpoint → Type 0
HasFailed [] None checkpoint = checkpoint ≡ CallFailed
HasFailed (flight ∷ []) ahead checkpoint =
    ((flight.stage ≡ Stopped) ⊎ (flight.stage ≡ Unsure)) × (checkpoint ≡ NotUnderWay)
HasFailed (first ∷ second ∷ []) None checkpoint =
    (first.stage ≡ Unsure) × ((second.stage ≡ Stopped) × (checkpoint ≡ NotUnderWay))
HasFailed flights ahead checkpoint = ⊥

-- the last commit is of the batches of the course after the one that is ahead, whose decisions were
-- made from this table, or it is the course's checkpoint
abbrev pub IsAt : Option Durable → List (Flight Command) → Checkpoint → TableState → StoreState
    → LastCommit → Type 0
IsAt ahead flights checkpoint t s commits.Failed = HasFailed flights ahead checkpoint
IsAt ahead flights checkpoint t s commit =
    (flights ≡ flights_of (flights_last commit))
    × (FitFlights t (flights_last commit)
    × (IsOn s commit × (checkpoint ≡ checkpoint_in s commit)))

-- the commits are in the state that a course says in which these commands are settled
pub record AreAt (origin : Origin) (settled : List Command) (flights : List (Flight Command))
    (checkpoint : Checkpoint) (s : StoreState) (begun : Pipeline) : Type 0 where
  pub behind : List (Flight Command)
  pub flights_are : flights ≡ flights_of (flights_ahead begun.ahead) ++ behind
  pub fit : FitFlights (table_from origin settled) (flights_ahead begun.ahead)
  pub last : IsAt begun.ahead behind checkpoint
      (table_from origin (settled_ahead settled begun.ahead)) s begun.last

-- no device call of this store failed
abbrev pub IsHealthy : StoreState → LastCommit → Type 0
IsHealthy s commits.Failed = Unit {0}
IsHealthy s commit = s.failed ≡ false

-- The store has the table of what is on the disk, the core that of what was taken and of what
-- waits, and the commits are in the state that the course says.
pub record IsLife (origin : Origin) (c : Course) (s : StoreState) (core : DecisionsState)
    (begun : Pipeline) : Type 0 where
  pub table : s.table ≡ table_from origin (durable_in c.settled c.flights)
  pub seq : s.seq ≡ number_from origin (durable_in c.settled c.flights)
  pub base : core.base ≡ table_from origin (taken_commands c)
  pub number : core.opening + core.taken ≡ number_from origin (taken_commands c)
  pub untaken : commands_of core.log ≡ c.untaken
  pub made : core.made ≡ c.made
  pub under_way : AreAt origin c.settled c.flights c.checkpoint s begun
  pub healthy : IsHealthy s begun.last
  pub survives : Survives origin c s.log.disk

-- The core has the effective time of the course, and its windows are those of the groups that
-- aren't closed; each link has said what came over it.
pub record IsListening (c : Course) (core : CoreState) (links : Links) : Type 0 where
  pub clock : core.clock ≡ c.clock
  pub windows : StandFor core.windows c.arrivals c.shut c.clock
  pub said : (link : ℕ) → HasSaid (stream_on link c.pieces) (heard_on links link)

abbrev pub FollowsLife : {D : Type 0} {g : _} → (D → State) → Origin → Course → Life D g → Type 0
FollowsLife state origin c life =
    IsLife origin c (store_state state life.store) life.core.decisions life.commits
    × IsListening c life.core life.links

-- the disk of a store that is closed
abbrev pub FollowsClosed : {D : Type 0} → (D → State) → Origin → Course → D → Type 0
FollowsClosed state origin c disk =
    (c.is_open ≡ false) × Survives origin c (state disk)

abbrev pub FollowsCondition : {D : Type 0} {g : _} → (D → State) → Origin → Course → Condition D g
    → Type 0
FollowsCondition state origin c (Open life) = (c.is_open ≡ true) × FollowsLife state origin c life
FollowsCondition state origin c (Closed disk) = FollowsClosed state origin c disk
FollowsCondition state origin c Crashing = ⊥

-- The world is in the state that its course says. What has left over all lives is part of the
-- effects of commands that every crash leaves.
pub record Follows {D : Type 0} {g : _} (state : D → State) (origin : Origin) (c : Course)
    (world : World D g) : Type 0 where
  pub condition : FollowsCondition state origin c world.condition
  pub left : c.left ≡ effects_of_all world.released.items
  pub emitted : c.emitted ≡ world.emitted
  pub once : IsSubsequence c.left (effects_from origin c.settled)

-- a step of a life whose store is open: whatever course it follows, the answer is right, and it
-- goes on following
abbrev pub MovesLife : {D : Type 0} {g : _} → (D → State) → Life D g → Step → Answer → Life D g
    → Type 0
MovesLife state old step answer new =
    (origin : Origin) (c : Course) → FollowsLife state origin c old
    → AnswersOpen origin c step answer
    × FollowsLife state origin (course_after origin c step answer) new

-- the same for a piece of a link's bytes
abbrev pub MovesPiece : {D : Type 0} {g : _} → (D → State) → Life D g → ℕ → ℕ → List ℕ → Answer
    → Life D g → Type 0
MovesPiece state old link moment bytes answer new =
    (origin : Origin) (c : Course) → FollowsLife state origin c old
    → AnswersPiece origin c link moment bytes answer
    × FollowsLife state origin (after_piece origin c link moment bytes answer) new

-- and for several events at one moment
abbrev pub MovesThrough : {D : Type 0} {g : _} → (D → State) → Life D g → ℕ → List EventTurn
    → Life D g → Type 0
MovesThrough state old moment turns new =
    (origin : Origin) (c : Course) → FollowsLife state origin c old
    → AreTurns origin c moment turns
    × FollowsLife state origin (after_events origin c moment turns) new

-- the same for a world
abbrev pub Moves : {D : Type 0} {g : _} → (D → State) → World D g → Step → Answer → World D g
    → Type 0
Moves state old step answer new =
    (origin : Origin) (c : Course) → Follows state origin c old
    → IsRight origin c step answer × Follows state origin (course_after origin c step answer) new

-- and for a run of steps
abbrev pub Runs : {D : Type 0} {g : _} → (D → State) → World D g → List Step → List Answer
    → World D g → Type 0
Runs state old steps answers new =
    (origin : Origin) (c : Course) → Follows state origin c old
    → AreRight origin c steps answers × Follows state origin (course_of origin c steps answers) new

-- a step of a life alone
abbrev pub IsOwn : Step → Type 0
IsOwn steps.Emit = ⊥
IsOwn (steps.Crash image) = ⊥
IsOwn step = Unit {0}

-- what such a step released is what the course says
abbrev pub Lets : {D : Type 0} {g : _} → (D → State) → Life D g → Step → Answer → List Released
    → List Released → Type 0
Lets state life step answer old new =
    (origin : Origin) (c : Course) → FollowsLife state origin c life
    → c.left ≡ effects_of_all old → (course_after origin c step answer).left ≡ effects_of_all new

-- a store with the table and the number of commands that a crash may leave
abbrev pub IsLeft : Origin → Course → TableState → ℕ → Type 0
IsLeft origin c table seq =
    (kept : List Command) × Leaves c kept × (table ≡ table_from origin kept)
    × (seq ≡ number_from origin kept)

-- an opening with this answer led here
abbrev pub IsOpenedCondition : {D : Type 0} {g : _} → (D → State) → Origin → Course → Answer
    → Condition D g → Type 0
IsOpenedCondition state origin c answer condition =
    AnswersCrash origin c answer
    × ((image : Image) → FollowsCondition state origin
    (course_after origin c (steps.Crash image) answer) condition)

-- the same for a disk after a crash
abbrev pub Reopens : {D : Type 0} {g : _} → (D → State) → D → Answer → Condition D g → Type 0
Reopens state disk answer condition =
    (origin : Origin) (c : Course) → NothingOpen (state disk) → Survives origin c (state disk)
    → IsOpenedCondition state origin c answer condition

-- and for a store that was opened
abbrev pub IsBegunCondition : {D : Type 0} {g : _} → (D → State) → Store D g → Answer
    → Condition D g → Type 0
IsBegunCondition state store answer condition =
    (origin : Origin) (c : Course)
    → IsLeft origin c (store_state state store).table (store_state state store).seq
    → IsOpenedCondition state origin c answer condition
