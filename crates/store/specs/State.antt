-- A store as contracts see it.
use Rattle.std.specs.Prelude.{◌≡◌, ◌≢◌, ◌≤◌, ℕ, ◌+◌, Bool, true, List, Result, MatchResult}
use Rattle.std.specs.Prelude.{OnOk, is_ok}
use Rattle.lw_types.specs.declared.refusal.Refusal.{Refusal}
use Rattle.lw_types.specs.declared.refusal.Refusal.TheVariants.{DeviceFailed}
use Rattle.disk.specs.Outlook.{Outlook, HasCause, IsForeseen}
use Rattle.disk.specs.State.{EveryImage, IsPermitted, State}
use Rattle.gate_log.specs.Areas.{LogContents}
use Rattle.gate_log.specs.Log.{LogState, IsAtRest, log_state, log_disk as disk_of_log}
use Rattle.sessions.specs.Table.{TableState}
use Rattle.record_codec.specs.Version.{newest}
use Rattle.store.specs.declared.store.Store.{Store}
use Rattle.store.specs.declared.store.TheConstants.{LARGEST_BATCH}
use Rattle.store.specs.Image.{HoldsTable, Says}

pub record StoreState : Type 0 where
  pub log : LogState
  -- the durable table, and the number of its last decision
  pub table : TableState
  pub seq : ℕ
  -- whether a call of the disk failed
  pub failed : Bool

abbrev pub disk_of : {D : Type 0} {g : _} → Store D g → D
disk_of store = disk_of_log store.log

abbrev pub store_state : {D : Type 0} {g : _} → (D → State) → Store D g → StoreState
store_state state store =
    record {
      log = log_state state store.log;
      table = store.table;
      seq = store.seq;
      failed = store.failed;
    }

-- the largest batch fits after the next gate
abbrev pub IsRoomy : StoreState → Type 0
IsRoomy s = s.log.next + LARGEST_BATCH ≤ s.log.areas.live.end

-- nothing is under way: the disk holds the store's table and number, and a crash changes nothing
pub record IsSettled (s : StoreState) : Type 0 where
  pub contents : LogContents
  pub rest : IsAtRest s.log contents
  pub says : Says newest contents s.table s.seq

-- an image holds a table in records of an older version
abbrev pub IsOld : List ℕ → Type 0
IsOld image =
    (t : TableState) × ((seq : ℕ) × ((x : HoldsTable t seq image) × (x.version ≢ newest)))

-- each image that a crash may leave of this disk holds the store's table and number
abbrev pub EachImageHolds : StoreState → State → Type 0
EachImageHolds s disk = EveryImage disk (HoldsTable s.table s.seq)

-- what a call keeps of a store: the table, its number and, if the call succeeded, the generation
pub record KeepsTable {T : Type 0} (old new : StoreState) (result : Result T Refusal) : Type 0 where
  pub table : new.table ≡ old.table
  pub seq : new.seq ≡ old.seq
  pub generation : OnOk result (new.log.generation ≡ old.log.generation)

-- a store that was opened: it has what the disk held, and the disk held no other table; the disk
-- was written only if the records were of an older version
pub record IsOpened (content : List ℕ) (s : StoreState) : Type 0 where
  pub settled : IsSettled s
  pub was : HoldsTable s.table s.seq content
  pub only : (t : TableState) (seq : ℕ) → HoldsTable t seq content → (t ≡ s.table) × (seq ≡ s.seq)
  pub same : ¬ (IsOld content) → s.log.disk.content ≡ content

-- each image of the disk holds each table that the bytes hold
abbrev pub StillHolds : List ℕ → State → Type 0
StillHolds bytes disk =
    (t : TableState) (seq : ℕ) → HoldsTable t seq bytes → EveryImage disk (HoldsTable t seq)

-- Each image that a crash may leave of the new disk holds the tables of some image that a crash
-- might have left of the old one. So what is known of the tables in all images of the old disk is
-- known of what is left now.
abbrev pub HoldsOn : State → State → Type 0
HoldsOn old new =
    EveryImage new (λ image. (was : List ℕ) × (IsPermitted old was
    × ((t : TableState) (seq : ℕ) → HoldsTable t seq was → HoldsTable t seq image)))

-- one call of the store's disk: an error is the device's, is returned exactly if that failed, and
-- makes the store fail
pub record IsOneCall {D : Type 0} {g : _} {T : Type 0} (failures : D → ℕ) (outlook : D → Outlook)
    (old new : Store D g) (result : Result T Refusal) : Type 0 where
  pub cause : HasCause (failures (disk_of old)) (failures (disk_of new)) result
  pub foreseen : IsForeseen (outlook (disk_of old)) (is_ok result) (outlook (disk_of new))
  pub failed : MatchResult result (λ _. new.failed ≡ old.failed)
      (λ e. (e ≡ DeviceFailed) × (new.failed ≡ true))
