-- What a disk holds while a store is made on it.
use Rattle.std.specs.Prelude.{◌≡◌, ◌≢◌, ◌⊎◌, ℕ, false, List, drop, slice_index}
use Rattle.disk.specs.State.{State}
use Rattle.gate_log.specs.declared.layout.TheConstants.{OPEN}
use Rattle.sessions.specs.Table.{TableState, empty_table}
use Rattle.store.specs.Image.{HoldsTable}

-- the superblock's gate is closed, and stays closed at a crash
pub record IsShut (state : State) : Type 0 where
  pub settled : state.is_open 0 ≡ false
  pub closed : slice_index state.content 0 ≢ OPEN

-- the disk holds no store, or everything after the superblock's gate is as it was
abbrev pub IsShutImage : List ℕ → List ℕ → Type 0
IsShutImage old image = (slice_index image 0 ≢ OPEN) ⊎ (drop 1 image ≡ drop 1 old)

-- the disk holds no store, or the new one with this table and number, or everything after the
-- superblock's gate is as it was
abbrev pub IsNewStoreImage : TableState → ℕ → List ℕ → List ℕ → Type 0
IsNewStoreImage t seq old image =
    (slice_index image 0 ≢ OPEN) ⊎ (HoldsTable t seq image ⊎ (drop 1 image ≡ drop 1 old))

-- the new one has no devices
abbrev pub IsFormatImage : ℕ → ℕ → List ℕ → List ℕ → Type 0
IsFormatImage net_id slots = IsNewStoreImage (empty_table net_id slots) 0
