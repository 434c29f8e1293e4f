-- What a step's answer says of the disk: a full journal only if it is full, how many calls a
-- checkpoint takes, and that a crash leaves the image that it names.
use Rattle.std.specs.Prelude.{◌≡◌, ◌<◌, ◌≤◌, ℕ, List, Result, Ok, Err, if◌then◌else◌}
use Rattle.lw_types.specs.declared.refusal.Refusal.{Refusal}
use Rattle.lw_types.specs.declared.refusal.Refusal.TheVariants as refusals
use Rattle.disk.specs.declared.sim.Image.{Image}
use Rattle.disk.specs.Crash.{IsCrashed}
use Rattle.disk.specs.State.{State}
use Rattle.flusher.specs.declared.room.Room.{Room}
use Rattle.store.specs.Pairing.{IsRoomyBehind}
use Rattle.store.specs.declared.phases.Begun.{Begun}
use Rattle.store.specs.State.{StoreState, store_state, IsOld, IsRoomy, StillHolds}
use Rattle.store.specs.declared.phases.GateWritten.{GateWritten}
use Rattle.store.specs.declared.areas.TheConstants.{LAST_GENERATION}
use Rattle.world.specs.Commits.{at_gate}
use Rattle.world.specs.Sound.{HasDisk}
use Rattle.world.specs.declared.commit.Pipeline.{Pipeline}
use Rattle.world.specs.declared.condition.Condition.{Condition}
use Rattle.world.specs.declared.condition.Condition.TheVariants.{Open, Closed, Crashing}
use Rattle.world.specs.declared.answer.Answer.{Answer}
use Rattle.world.specs.declared.answer.Answer.TheVariants as answers
use Rattle.world.specs.declared.step.Step.{Step}
use Rattle.world.specs.declared.step.Step.TheVariants as steps

-- the answer for this number of decisions that were taken, by what the store returned for their
-- batch
abbrev pub told_by : Result Begun Refusal → ℕ → Answer
told_by (Ok begun) count = answers.Taken count
told_by (Err refusals.OutOfStep) count = answers.Refused refusals.OutOfStep
told_by (Err e) count = answers.GivenUp count

-- A batch is taken only if the journal has room for the largest one, and full is returned only if
-- it hasn't.
abbrev pub RefusalTells : Type 0 → Refusal → Type 0
RefusalTells roomy refusals.OutOfStep = roomy
RefusalTells roomy refusals.OutOfMemory = roomy
RefusalTells roomy e = Unit {0}

abbrev pub TakeTells : Type 0 → Answer → Type 0
TakeTells roomy answers.Full = ¬ roomy
TakeTells roomy (answers.Taken n) = roomy
TakeTells roomy (answers.GivenUp n) = roomy
TakeTells roomy (answers.Refused e) = RefusalTells roomy e
TakeTells roomy answer = Unit {0}

-- after a batch that is begun, it is the room after that
abbrev pub NextTells : StoreState → Pipeline → Answer → Type 0
NextTells s commits answer =
    (opened : GateWritten) (room : Room) → commits ≡ at_gate opened room
    → TakeTells (IsRoomyBehind s opened) answer

-- A checkpoint takes two more calls if the other area's gate is open, and is refused as damaged
-- exactly if the live area has the last generation.
abbrev pub CheckpointTells : StoreState → Answer → Type 0
CheckpointTells s (answers.Begun calls) =
    (s.log.generation < LAST_GENERATION) × (calls ≡ (if s.log.other_open then 6 else 4))
CheckpointTells s (answers.Refused refusals.Damaged) = LAST_GENERATION ≤ s.log.generation
CheckpointTells s (answers.Refused refusals.OutOfMemory) = s.log.generation < LAST_GENERATION
CheckpointTells s answer = Unit {0}

abbrev pub TellsRoom : StoreState → Pipeline → Step → Answer → Type 0
TellsRoom s commits (steps.Take most) answer = TakeTells (IsRoomy s) answer
TellsRoom s commits (steps.Next most) answer = NextTells s commits answer
TellsRoom s commits steps.Checkpoint answer = CheckpointTells s answer
TellsRoom s commits step answer = Unit {0}

abbrev pub ConditionTellsRoom : {D : Type 0} {g : _} → (D → State) → Condition D g → Step → Answer
    → Type 0
ConditionTellsRoom state (Open life) step answer =
    TellsRoom (store_state state life.store) life.commits step answer
ConditionTellsRoom state (Closed disk) step answer = Unit {0}
ConditionTellsRoom state Crashing step answer = Unit {0}

-- A store was opened from these bytes, or its opening was refused. The content changed only if the
-- records are of an older version, and each image that a crash may leave holds the table that the
-- bytes hold, if any.
pub record IsOpenedFrom (left : List ℕ) (now : State) : Type 0 where
  pub same : ¬ (IsOld left) → now.content ≡ left
  pub keeps : StillHolds left now

-- the disk of a world has crashed to this image, and a store was opened from what was left
abbrev pub CrashesTo : {D : Type 0} {g : _} → (D → State) → Image → Condition D g → Condition D g
    → Type 0
CrashesTo {D} state image old new =
    (before now : D) → HasDisk old before → HasDisk new now
    → (left : List ℕ) × IsCrashed image (state before) left × IsOpenedFrom left (state now)

-- a crash leaves the image that it names
abbrev pub LeavesImage : {D : Type 0} {g : _} → (D → State) → Condition D g → Step → Condition D g
    → Type 0
LeavesImage state old (steps.Crash image) new = CrashesTo state image old new
LeavesImage state old step new = Unit {0}
