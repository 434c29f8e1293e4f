-- What is returned when a store is made on a disk, and when one is opened. An error contains the
-- refusal that `refusal_of` gives for it, and may contain the disk.
use Rattle.std.specs.Prelude.{◌≡◌, ◌≢◌, ℕ, false, Result, IfOk, IfErr, IsErrAnd, MatchResult}
use Rattle.std.specs.Prelude.{length}
use Rattle.lw_types.specs.declared.refusal.Refusal.{Refusal}
use Rattle.lw_types.specs.declared.refusal.Refusal.TheVariants.{DeviceFailed, OutOfMemory}
use Rattle.disk.specs.declared.disk.Disk.{Ghosts}
use Rattle.disk.specs.Outlook.Outlook.{AllSucceed, FailsAfter}
use Rattle.gate_log.specs.Areas.{IsClosedArea}
use Rattle.sessions.specs.Table.{IsSlots, empty_table}
use Rattle.store_layout.specs.Superblock.{disk_len}
use Rattle.store.specs.Faults.{HasGoodFront, IsFault, IsFormatRefusal}
use Rattle.store.specs.Image.{area_b}
use Rattle.store.specs.State.{IsOpened, IsSettled, disk_of, store_state}
use Rattle.store.specs.declared.store.Store.{Store}

-- a store without devices was made on the disk, or not, and why
pub record IsFormatAnswer {D E : Type 0} (disk : Ghosts D) (at : D) (net_id slots : ℕ)
    (refusal_of : E → Refusal) (result : Result (Store D disk) E) : Type 0 where
  pub empty : IfOk result (λ store.
      ((store_state disk.state store).table ≡ empty_table net_id slots)
      × ((store_state disk.state store).seq ≡ 0))
  pub healthy : IfOk result (λ store. ((store_state disk.state store).failed ≡ false)
      × (disk.failures (disk_of store) ≡ disk.failures at))
  pub settled : disk.honest → IfOk result (λ store. IsSettled (store_state disk.state store))
  pub other_area : disk.honest → IfOk result
      (λ store. IsClosedArea (area_b slots) (disk.state (disk_of store)).content)
  pub fits : IfOk result (λ _. IsSlots slots
      × (length (disk.state at).content ≡ disk_len slots))
  pub generation : IfOk result
      (λ store. (store_state disk.state store).log.generation ≡ 1)
  pub refused : IfErr result
      (λ e. IsFormatRefusal slots (length (disk.state at).content) (refusal_of e))
  pub unarmed : disk.outlook at ≡ AllSucceed → MatchResult result
      (λ store. disk.outlook (disk_of store) ≡ AllSucceed)
      (λ e. refusal_of e ≢ DeviceFailed)

-- the store that the disk holds was opened, or not, and why
pub record IsOpenAnswer {D E : Type 0} (disk : Ghosts D) (at : D) (refusal_of : E → Refusal)
    (result : Result (Store D disk) E) : Type 0 where
  pub opened : disk.honest → IfOk result
      (λ store. IsOpened (disk.state at).content (store_state disk.state store))
  pub healthy : IfOk result (λ store. ((store_state disk.state store).failed ≡ false)
      × (disk.failures (disk_of store) ≡ disk.failures at))
  pub refused : disk.honest → IfErr result (λ e. refusal_of e ≢ DeviceFailed
      → refusal_of e ≢ OutOfMemory → IsFault (disk.state at).content (refusal_of e))
  pub memory : disk.honest → IfErr result (λ e. refusal_of e ≡ OutOfMemory
      → HasGoodFront (disk.state at).content)
  pub unarmed : disk.outlook at ≡ AllSucceed → MatchResult result
      (λ store. disk.outlook (disk_of store) ≡ AllSucceed)
      (λ e. refusal_of e ≢ DeviceFailed)
  -- the first call comes before everything else
  pub fails : disk.outlook at ≡ FailsAfter 0
      → IsErrAnd result (λ e. refusal_of e ≡ DeviceFailed)
