-- What a checkpoint under way is, and what its device calls leave.
use Rattle.std.specs.Prelude.{◌≡◌, ◌+◌, ◌-◌, ℕ, if◌then◌else◌, Option, Some, None, Result, IfOk}
use Rattle.lw_types.specs.declared.refusal.Refusal.{Refusal}
use Rattle.disk.specs.declared.disk.Disk.{Ghosts}
use Rattle.disk.specs.State.{EveryImage}
use Rattle.store.specs.Checkpointing.{FitsOther, IsCheckpointOn, IsRetiringOn}
use Rattle.store.specs.Checkpointing.{IsCheckpointWrittenOn, IsCheckpointSyncedOn}
use Rattle.store.specs.Checkpointing.{IsCheckpointOpenedOn, checkpoint_size, retiring_size}
use Rattle.store.specs.Checkpointing.{checkpoint_written_size, checkpoint_synced_size}
use Rattle.store.specs.Checkpointing.{checkpoint_opened_size}
use Rattle.store.specs.Image.{HoldsTable}
use Rattle.store.specs.State.{StoreState, IsRoomy, IsSettled, disk_of, store_state}
use Rattle.store.specs.declared.publishing.Publishing.{Publishing}
use Rattle.store.specs.declared.publishing.Publishing.TheVariants.{Begun, Retiring, Written}
use Rattle.store.specs.declared.publishing.Publishing.TheVariants.{Synced, Opened}
use Rattle.store.specs.declared.store.Store.{Store}

-- the number of its device calls that are left: two more if the other area's gate has to be closed
-- first
abbrev pub calls_left : StoreState → Publishing → ℕ
calls_left s (Begun phase) = if s.log.other_open then 6 else 4
calls_left s (Retiring phase) = 5
calls_left s (Written phase) = 3
calls_left s (Synced phase) = 2
calls_left s (Opened phase) = 1

-- the number of bytes from the other area's gate to where the gate of the first batch will stand
abbrev pub publishing_size : Publishing → ℕ
publishing_size (Begun phase) = checkpoint_size phase
publishing_size (Retiring phase) = retiring_size phase
publishing_size (Written phase) = checkpoint_written_size phase
publishing_size (Synced phase) = checkpoint_synced_size phase
publishing_size (Opened phase) = checkpoint_opened_size phase

-- what the store's disk holds of it
abbrev pub IsPublishingOn : StoreState → Publishing → Type 0
IsPublishingOn s (Begun phase) = IsCheckpointOn s phase
IsPublishingOn s (Retiring phase) = IsRetiringOn s phase
IsPublishingOn s (Written phase) = IsCheckpointWrittenOn s phase
IsPublishingOn s (Synced phase) = IsCheckpointSyncedOn s phase
IsPublishingOn s (Opened phase) = IsCheckpointOpenedOn s phase

-- the same after one of its calls, which may have been the last one
abbrev pub IsPublishedOn : StoreState → Option Publishing → Type 0
IsPublishedOn s None = IsSettled s
IsPublishedOn s (Some next) = IsPublishingOn s next

-- it fits the other area, and after its last call the store has room for the largest batch
abbrev pub FitsStill : StoreState → Option Publishing → Type 0
FitsStill s None = IsRoomy s
FitsStill s (Some next) = FitsOther s (publishing_size next)

abbrev pub calls_left_after : StoreState → Option Publishing → ℕ
calls_left_after s None = 0
calls_left_after s (Some next) = calls_left s next

-- the last call takes over the other area, which has the next generation
abbrev pub generation_of : ℕ → Option Publishing → ℕ
generation_of before None = before + 1
generation_of before (Some next) = before

-- One device call of a checkpoint: the store keeps its table and its number, also in every image,
-- and one call fewer is left.
pub record IsPublishingCall {D : Type 0} (disk : Ghosts D) (old : Store D disk)
    (publishing : Publishing) (result : Result (Option Publishing) Refusal)
    (new : Store D disk) : Type 0 where
  pub fits : IfOk result (FitsStill (store_state disk.state new))
  pub calls : IfOk result (λ next. calls_left_after (store_state disk.state new) next
      ≡ calls_left (store_state disk.state old) publishing - 1)
  pub table : (store_state disk.state new).table ≡ (store_state disk.state old).table
  pub seq : (store_state disk.state new).seq ≡ (store_state disk.state old).seq
  pub on_disk : disk.honest → IsPublishingOn (store_state disk.state old) publishing
      → IfOk result (IsPublishedOn (store_state disk.state new))
  pub images : disk.honest → IsPublishingOn (store_state disk.state old) publishing
      → EveryImage (disk.state (disk_of new)) (HoldsTable (store_state disk.state old).table
      (store_state disk.state old).seq)
  pub generation : disk.honest → IsPublishingOn (store_state disk.state old) publishing
      → IfOk result (λ next. (store_state disk.state new).log.generation
      ≡ generation_of (store_state disk.state old).log.generation next)
