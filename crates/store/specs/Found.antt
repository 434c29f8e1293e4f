-- What was read from a disk that is being opened.
use Rattle.std.specs.Prelude.{◌≡◌, ◌≢◌, ◌⊎◌, ◌+◌, ℕ, Bool, false, List, length, Result, Ok, Err}
use Rattle.std.specs.Prelude.{IfOk, IfErr, MatchResult}
use Rattle.lw_types.specs.declared.refusal.Refusal.{Refusal}
use Rattle.lw_types.specs.declared.refusal.Refusal.TheVariants.{DeviceFailed, OutOfMemory}
use Rattle.disk.specs.declared.disk.Disk.{Ghosts}
use Rattle.disk.specs.Outlook.{IsArmed}
use Rattle.disk.specs.Outlook.Outlook.{AllSucceed}
use Rattle.record_codec.specs.Version.{newest}
use Rattle.lw_types.specs.Refusal.{number_of}
use Rattle.gate_log.specs.Areas.{LogContents, Holds}
use Rattle.gate_log.specs.Layout.{spelling}
use Rattle.gate_log.specs.Live.{IsLiveAs}
use Rattle.sessions.specs.Table.{TableState}
use Rattle.std.specs.Prelude.{◌==◌}
use Rattle.store.specs.declared.found.Found.{Found}
use Rattle.store.specs.Image.{HoldsTable, Says}
use Rattle.store.specs.State.{IsOpened, StillHolds, disk_of, store_state}
use Rattle.store.specs.declared.store.Store.{Store}

-- the disk holds the table and number that were found, and no others
pub record IsFound (image : List ℕ) (found : Found) : Type 0 where
  pub contents : LogContents
  pub live : IsLiveAs found.live image
  pub holds : Holds contents image
  pub areas : contents.areas ≡ found.live.areas
  pub header : contents.journal.header ≡ found.live.header
  pub next : found.next ≡ contents.areas.live.start + length (spelling contents.journal)
  pub says : Says found.version contents found.table found.seq
  pub only : (t : TableState) (seq : ℕ) → HoldsTable t seq image
      → (t ≡ found.table) × (seq ≡ found.seq)

-- A store with what was found on this disk was made, or not, and why. Nothing is written if the
-- records are of the newest version; otherwise the disk still holds what it held, whatever the
-- result is.
pub record IsOpeningOf {D : Type 0} (disk : Ghosts D) (at : D) (found : Found)
    (result : Result (Store D disk) (D × Refusal)) : Type 0 where
  pub opened : disk.honest → IsFound (disk.state at).content found → IfOk result
      (λ store. IsOpened (disk.state at).content (store_state disk.state store))
  pub healthy : IfOk result (λ store. ((store_state disk.state store).failed ≡ false)
      × (disk.failures (disk_of store) ≡ disk.failures at))
  pub older : IfErr result (λ e. found.version ≢ newest)
  pub refused : IfErr result (λ e. ((e.1 ≡ OutOfMemory) × (e.0 ≡ at))
      ⊎ ((e.1 ≡ DeviceFailed) × (disk.failures e.0 ≡ disk.failures at + 1)))
  pub unarmed : disk.outlook at ≡ AllSucceed → MatchResult result
      (λ store. disk.outlook (disk_of store) ≡ AllSucceed)
      (λ e. (e.1 ≢ DeviceFailed) × (disk.outlook e.0 ≡ AllSucceed))
  pub armed : IsArmed (disk.outlook at) → MatchResult result
      (λ store. IsArmed (disk.outlook (disk_of store)))
      (λ e. (e.1 ≡ DeviceFailed → disk.outlook e.0 ≡ AllSucceed)
      × (e.1 ≢ DeviceFailed → IsArmed (disk.outlook e.0)))
  pub kept : disk.honest → IsFound (disk.state at).content found → IfErr result
      (λ e. StillHolds (disk.state at).content (disk.state e.0))
  pub same_length : IfErr result
      (λ e. length (disk.state e.0).content ≡ length (disk.state at).content)

-- whether the device failed
abbrev pub is_device_refusal : {T : Type 0} → Result T Refusal → Bool
is_device_refusal (Ok x) = false
is_device_refusal (Err e) = number_of e == 40
