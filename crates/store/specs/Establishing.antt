-- How a store that has a table from the beginning comes to a disk: a checkpoint of it is published
-- after the superblock's closed gate, which is opened last.
use Rattle.std.specs.Prelude.{◌≡◌, ◌≢◌, ◌⊎◌, ◌+◌, ◌≤◌, ℕ, List, ◌∷◌, false, Result, IfOk, IfErr}
use Rattle.std.specs.Prelude.{MatchResult, drop, length, slice_index}
use Rattle.lw_types.specs.declared.refusal.Refusal.{Refusal}
use Rattle.lw_types.specs.declared.refusal.Refusal.TheVariants.{DeviceFailed, OutOfMemory}
use Rattle.lw_types.specs.declared.refusal.Refusal.TheVariants.{WrongSize}
use Rattle.disk.specs.declared.disk.Disk.{Ghosts}
use Rattle.disk.specs.Outlook.Outlook.{AllSucceed}
use Rattle.disk.specs.State.{EveryImage, NothingOpen}
use Rattle.gate_log.specs.declared.layout.Header.{Header}
use Rattle.gate_log.specs.declared.layout.TheConstants.{OPEN}
use Rattle.gate_log.specs.Areas.{LogContents, Holds, front_len}
use Rattle.gate_log.specs.Layout.{IsHeader, checkpoint}
use Rattle.sessions.specs.Table.{TableState}
use Rattle.store_layout.specs.Superblock.{disk_len, superblock}
use Rattle.store.specs.Formatting.{IsNewStoreImage}
use Rattle.store.specs.Image.{area_a, area_b}
use Rattle.store.specs.State.{IsSettled, disk_of, store_state}
use Rattle.store.specs.declared.store.Store.{Store}

-- a store with this table and number was made on the disk, or not, and why; then the disk is
-- returned
pub record IsEstablished {D : Type 0} (disk : Ghosts D) (at : D) (t : TableState) (seq : ℕ)
    (result : Result (Store D disk) (D × Refusal)) : Type 0 where
  pub made : IfOk result (λ store. ((store_state disk.state store).table ≡ t)
      × ((store_state disk.state store).seq ≡ seq))
  pub healthy : IfOk result (λ store. ((store_state disk.state store).failed ≡ false)
      × (disk.failures (disk_of store) ≡ disk.failures at))
  pub settled : disk.honest → IfOk result (λ store. IsSettled (store_state disk.state store))
  pub size : MatchResult result (λ _. length (disk.state at).content ≡ disk_len t.slots)
      (λ e. ((e.1 ≡ WrongSize) × (length (disk.state at).content ≢ disk_len t.slots))
      ⊎ ((length (disk.state at).content ≡ disk_len t.slots)
      × ((e.1 ≡ DeviceFailed) ⊎ (e.1 ≡ OutOfMemory))))
  pub device : IfErr result
      (λ e. (e.1 ≡ DeviceFailed → disk.failures e.0 ≡ disk.failures at + 1)
      × (e.1 ≢ DeviceFailed → e.0 ≡ at))
  pub images : disk.honest → NothingOpen (disk.state at) → IfErr result
      (λ e. EveryImage (disk.state e.0) (IsNewStoreImage t seq (disk.state at).content))
  pub unarmed : disk.outlook at ≡ AllSucceed → MatchResult result
      (λ store. disk.outlook (disk_of store) ≡ AllSucceed) (λ e. e.1 ≢ DeviceFailed)

-- the contents after an open gate
abbrev pub opened_contents : LogContents → LogContents
opened_contents c =
    record { areas = c.areas; front = OPEN ∷ drop 1 c.front; journal = c.journal; size = c.size }

-- a gate stands before both areas, and it is closed
pub record IsBehindShut (c : LogContents) : Type 0 where
  pub some : 1 ≤ front_len c.areas
  pub closed : slice_index c.front 0 ≢ OPEN

-- the disk holds no store, or these contents after an open gate
abbrev pub IsOpenedImage : LogContents → List ℕ → Type 0
IsOpenedImage c image = (slice_index image 0 ≢ OPEN) ⊎ Holds (opened_contents c) image

-- what the disk holds at the end: the superblock, and the checkpoint in the second area
abbrev pub first_contents : ℕ → ℕ → Header → List ℕ → LogContents
first_contents net_id slots header records =
    record {
      areas = record { live = area_b slots; other = area_a slots };
      front = superblock net_id slots;
      journal = checkpoint header records;
      size = disk_len slots;
    }

-- a checkpoint that may follow a fresh area
pub record IsFirstCheckpoint (header : Header) (records : List ℕ) : Type 0 where
  pub in_range : IsHeader header
  pub generation : header.generation ≡ 2
  pub len : length records ≡ header.records_len

-- the disk holds no store, or these contents, or everything after the first byte is as it was
abbrev pub IsFirstImage : LogContents → List ℕ → List ℕ → Type 0
IsFirstImage c old image =
    (slice_index image 0 ≢ OPEN) ⊎ (Holds c image ⊎ (drop 1 image ≡ drop 1 old))
