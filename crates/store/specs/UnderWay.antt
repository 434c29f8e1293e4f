-- What is under way on a store, and what one device call of it does.
use Rattle.std.specs.Prelude.{◌≡◌, ◌+◌, ◌-◌, ℕ, Bool, true, false, List, [], ◌∷◌, length}
use Rattle.std.specs.Prelude.{Option, Some, None, Result, IfOk, is_ok}
use Rattle.lw_types.specs.declared.refusal.Refusal.{Refusal}
use Rattle.disk.specs.declared.disk.Disk.{Ghosts}
use Rattle.disk.specs.State.{EveryImage}
use Rattle.sessions.specs.Decision.{with_decisions}
use Rattle.sessions.specs.declared.decision.Decision.{Decision}
use Rattle.store.specs.Checkpointing.{FitsOther}
use Rattle.store.specs.Commit.{IsUnderWay, Tip, tip_behind, tip_of}
use Rattle.store.specs.Flights.{Flight, MayLeave, Stage, all_failed, all_succeeded, durable_in}
use Rattle.store.specs.Image.{HoldsTable}
use Rattle.store.specs.Pairing.{AreUnderWay, IsBegunBehind, IsPairedOn, MayFollowBehind}
use Rattle.store.specs.Pairing.{following_sequel, paired_sequel, paired_size}
use Rattle.store.specs.Phases.{IsBegunOn, IsWrittenOn, IsBodySyncedOn, IsGateWrittenOn}
use Rattle.store.specs.Phases.{begun_sequel, begun_size, written_sequel, written_size}
use Rattle.store.specs.Phases.{body_synced_sequel, body_synced_size, gate_written_sequel}
use Rattle.store.specs.Phases.{gate_written_size, durable_decisions}
use Rattle.store.specs.Publishing.{IsPublishingOn, calls_left, publishing_size}
use Rattle.store.specs.State.{StoreState, IsRoomy, IsSettled, disk_of, store_state}
use Rattle.store.specs.declared.store.Store.{Store}
use Rattle.store.specs.declared.under_way.Called.{Called}
use Rattle.store.specs.declared.under_way.Called.TheVariants as calls
use Rattle.store.specs.declared.under_way.UnderWay.{UnderWay}
use Rattle.store.specs.declared.under_way.UnderWay.TheVariants.{Begun, Written, BodySynced}
use Rattle.store.specs.declared.under_way.UnderWay.TheVariants.{GateWritten, Following, Paired}
use Rattle.store.specs.declared.under_way.UnderWay.TheVariants.{Checkpoint}

abbrev pub flight : Stage → List Decision → Flight Decision
flight stage decisions = record { batch = decisions; stage = stage }

-- the batches under way, the oldest first
abbrev pub flights_in : {T : Type 0} → UnderWay T → List (Flight Decision)
flights_in (Begun phase along) = flight Stage.Begun (begun_sequel phase).decisions ∷ []
flights_in (Written phase along) = flight Stage.Written (written_sequel phase).decisions ∷ []
flights_in (BodySynced phase along) =
    flight Stage.BodySynced (body_synced_sequel phase).decisions ∷ []
flights_in (GateWritten phase along) =
    flight Stage.GateWritten (gate_written_sequel phase).decisions ∷ []
flights_in (Following opened along following behind) =
    flight Stage.GateWritten (gate_written_sequel opened).decisions
    ∷ flight Stage.Begun (begun_sequel following).decisions ∷ []
flights_in (Paired phase along behind) =
    flight Stage.GateWritten (paired_sequel phase).decisions
    ∷ flight Stage.Written (following_sequel phase).decisions ∷ []
flights_in (Checkpoint phase) = []

-- what accompanies each of them
abbrev pub along_in : {T : Type 0} → UnderWay T → List T
along_in (Begun phase along) = along ∷ []
along_in (Written phase along) = along ∷ []
along_in (BodySynced phase along) = along ∷ []
along_in (GateWritten phase along) = along ∷ []
along_in (Following opened along following behind) = along ∷ behind ∷ []
along_in (Paired phase along behind) = along ∷ behind ∷ []
along_in (Checkpoint phase) = []

-- the number of device calls of a checkpoint that are left
abbrev pub checkpoint_calls : {T : Type 0} → StoreState → UnderWay T → ℕ
checkpoint_calls s (Checkpoint phase) = calls_left s phase
checkpoint_calls s under_way = 0

-- a batch under way is a legal continuation of the store's table, or of the one that the batch
-- before it leaves, and there is room for it; for a checkpoint there is room, too
abbrev pub IsOnItsWay : {T : Type 0} → StoreState → UnderWay T → Type 0
IsOnItsWay s (Begun phase along) = IsUnderWay s (begun_sequel phase) (begun_size phase)
IsOnItsWay s (Written phase along) = IsUnderWay s (written_sequel phase) (written_size phase)
IsOnItsWay s (BodySynced phase along) =
    IsUnderWay s (body_synced_sequel phase) (body_synced_size phase)
IsOnItsWay s (GateWritten phase along) =
    IsUnderWay s (gate_written_sequel phase) (gate_written_size phase)
IsOnItsWay s (Following opened along following behind) =
    IsUnderWay s (gate_written_sequel opened) (gate_written_size opened)
    × MayFollowBehind s opened following
IsOnItsWay s (Paired phase along behind) = AreUnderWay s phase
IsOnItsWay s (Checkpoint phase) = FitsOther s (publishing_size phase)

-- what the store's disk holds of it
abbrev pub IsOnDisk : {T : Type 0} → StoreState → UnderWay T → Type 0
IsOnDisk s (Begun phase along) = IsBegunOn s phase
IsOnDisk s (Written phase along) = IsWrittenOn s phase
IsOnDisk s (BodySynced phase along) = IsBodySyncedOn s phase
IsOnDisk s (GateWritten phase along) = IsGateWrittenOn s phase
IsOnDisk s (Following opened along following behind) =
    IsGateWrittenOn s opened × IsBegunBehind s opened following
IsOnDisk s (Paired phase along behind) = IsPairedOn s phase
IsOnDisk s (Checkpoint phase) = IsPublishingOn s phase

-- the same after a device call, which may have ended it, or made a batch durable
abbrev pub flights_behind : {T : Type 0} → Option (UnderWay T) → List (Flight Decision)
flights_behind None = []
flights_behind (Some next) = flights_in next

abbrev pub flights_after : {T : Type 0} → Called T → List (Flight Decision)
flights_after (calls.UnderWay next) = flights_in next
flights_after (calls.Durable durable along behind) =
    flight Stage.Durable (durable_decisions durable) ∷ flights_behind behind
flights_after calls.Published = []

abbrev pub along_behind : {T : Type 0} → Option (UnderWay T) → List T
along_behind None = []
along_behind (Some next) = along_in next

abbrev pub along_after : {T : Type 0} → Called T → List T
along_after (calls.UnderWay next) = along_in next
along_after (calls.Durable durable along behind) = along ∷ along_behind behind
along_after calls.Published = []

abbrev pub checkpoint_calls_behind : {T : Type 0} → StoreState → Option (UnderWay T) → ℕ
checkpoint_calls_behind s None = 0
checkpoint_calls_behind s (Some next) = checkpoint_calls s next

abbrev pub checkpoint_calls_after : {T : Type 0} → StoreState → Called T → ℕ
checkpoint_calls_after s (calls.UnderWay next) = checkpoint_calls s next
checkpoint_calls_after s (calls.Durable durable along behind) = checkpoint_calls_behind s behind
checkpoint_calls_after s calls.Published = 0

abbrev pub IsOnItsWayBehind : {T : Type 0} → StoreState → Option (UnderWay T) → Type 0
IsOnItsWayBehind s None = Unit {0}
IsOnItsWayBehind s (Some next) = IsOnItsWay s next

abbrev pub IsOnItsWayAfter : {T : Type 0} → StoreState → Called T → Type 0
IsOnItsWayAfter s (calls.UnderWay next) = IsOnItsWay s next
IsOnItsWayAfter s (calls.Durable durable along behind) = IsOnItsWayBehind s behind
IsOnItsWayAfter s calls.Published = IsRoomy s

abbrev pub IsOnDiskBehind : {T : Type 0} → StoreState → Option (UnderWay T) → Type 0
IsOnDiskBehind s None = IsSettled s
IsOnDiskBehind s (Some next) = IsOnDisk s next

abbrev pub IsOnDiskAfter : {T : Type 0} → StoreState → Called T → Type 0
IsOnDiskAfter s (calls.UnderWay next) = IsOnDisk s next
IsOnDiskAfter s (calls.Durable durable along behind) = IsOnDiskBehind s behind
IsOnDiskAfter s calls.Published = IsSettled s

-- after the oldest batch under way the journal continues at this tip; after a checkpoint it doesn't
abbrev pub HasTip : {T : Type 0} → Tip → StoreState → UnderWay T → Type 0
HasTip tip s (Begun phase along) = tip ≡ tip_behind s (begun_sequel phase) (begun_size phase)
HasTip tip s (Written phase along) = tip ≡ tip_behind s (written_sequel phase) (written_size phase)
HasTip tip s (BodySynced phase along) =
    tip ≡ tip_behind s (body_synced_sequel phase) (body_synced_size phase)
HasTip tip s (GateWritten phase along) =
    tip ≡ tip_behind s (gate_written_sequel phase) (gate_written_size phase)
HasTip tip s (Following opened along following behind) =
    tip ≡ tip_behind s (gate_written_sequel opened) (gate_written_size opened)
HasTip tip s (Paired phase along behind) =
    tip ≡ tip_behind s (paired_sequel phase) (paired_size phase)
HasTip tip s (Checkpoint phase) = ⊥

-- the same after a device call: if a batch became durable by it, the store continues there
abbrev pub HasTipAfter : {T : Type 0} → Tip → StoreState → Called T → Type 0
HasTipAfter tip s (calls.UnderWay next) = HasTip tip s next
HasTipAfter tip s (calls.Durable durable along behind) = tip ≡ tip_of s
HasTipAfter tip s calls.Published = ⊥

-- the last call of a checkpoint takes over the other area, which has the next generation
abbrev pub generation_after : {T : Type 0} → ℕ → Called T → ℕ
generation_after before calls.Published = before + 1
generation_after before called = before

-- what a device call, successful or not, makes of batches
abbrev pub all_called : Bool → List (Flight Decision) → List (Flight Decision)
all_called true flights = all_succeeded flights
all_called false flights = all_failed flights

-- A store has these batches under way: it has the table and the number of those that are durable.
pub record HasDurable (flights : List (Flight Decision)) (old new : StoreState) : Type 0 where
  pub table : new.table ≡ with_decisions old.table (durable_in [] flights)
  pub seq : new.seq ≡ old.seq + length (durable_in [] flights)

-- an image holds the table and the number that a store had, with what a crash may leave of batches
abbrev pub HoldsLeft : StoreState → List (Flight Decision) → List ℕ → Type 0
HoldsLeft s flights image =
    (kept : List Decision) × MayLeave [] flights kept
    × HoldsTable (with_decisions s.table kept) (s.seq + length kept) image

-- One device call of what is under way: each of its batches is a stage further, a durable one is on
-- the table, and each image that a crash may leave holds what these stages allow.
pub record IsNextCall {D T : Type 0} (disk : Ghosts D) (old : Store D disk) (under_way : UnderWay T)
    (result : Result (Called T) Refusal) (new : Store D disk) : Type 0 where
  pub flights : IfOk result
      (λ called. flights_after called ≡ all_succeeded (flights_in under_way))
  pub along : IfOk result (λ called. along_after called ≡ along_in under_way)
  pub calls : IfOk result (λ called. checkpoint_calls_after (store_state disk.state new) called
      ≡ checkpoint_calls (store_state disk.state old) under_way - 1)
  pub way : IfOk result (IsOnItsWayAfter (store_state disk.state new))
  pub tip : (tip : Tip) → HasTip tip (store_state disk.state old) under_way
      → IfOk result (HasTipAfter tip (store_state disk.state new))
  pub durable : HasDurable (all_called (is_ok result) (flights_in under_way))
      (store_state disk.state old) (store_state disk.state new)
  pub images : disk.honest → IsOnDisk (store_state disk.state old) under_way
      → EveryImage (disk.state (disk_of new)) (HoldsLeft (store_state disk.state old)
      (all_called (is_ok result) (flights_in under_way)))
  pub on_disk : disk.honest → IsOnDisk (store_state disk.state old) under_way
      → IfOk result (IsOnDiskAfter (store_state disk.state new))
  pub generation : disk.honest → IsOnDisk (store_state disk.state old) under_way
      → IfOk result (λ called. (store_state disk.state new).log.generation
      ≡ generation_after (store_state disk.state old).log.generation called)
