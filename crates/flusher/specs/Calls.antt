-- Several calls of a store's disk.
use Rattle.std.specs.Prelude.{◌≡◌, ◌≢◌, ◌≤◌, ◌<◌, ◌+◌, ◌-◌, ℕ, true, Result, MatchResult}
use Rattle.std.specs.Prelude.{nat_le, if◌then◌else◌}
use Rattle.disk.specs.State.{State}
use Rattle.lw_types.specs.declared.refusal.Refusal.{Refusal}
use Rattle.lw_types.specs.declared.refusal.Refusal.TheVariants.{DeviceFailed}
use Rattle.disk.specs.Outlook.{Outlook}
use Rattle.disk.specs.Outlook.Outlook.{Unknown, AllSucceed, FailsAfter}
use Rattle.store.specs.declared.store.Store.{Store}
use Rattle.store.specs.declared.store.TheConstants.{LARGEST_BATCH}
use Rattle.store.specs.State.{StoreState, disk_of, store_state}

-- none of them failed
pub record NoneFailed {D : Type 0} {g : _} (failures : D → ℕ) (outlook : D → Outlook)
    (old new : Store D g) : Type 0 where
  pub count : failures (disk_of new) ≡ failures (disk_of old)
  pub unarmed : outlook (disk_of old) ≡ AllSucceed → outlook (disk_of new) ≡ AllSucceed
  pub failed : new.failed ≡ old.failed

-- the last of them failed, and so the store has failed
pub record LastFailed {D : Type 0} {g : _} (failures : D → ℕ) (outlook : D → Outlook)
    (old new : Store D g) : Type 0 where
  pub count : failures (disk_of new) ≡ failures (disk_of old) + 1
  pub armed : outlook (disk_of old) ≢ AllSucceed
  pub failed : new.failed ≡ true

-- one of these two, as the result says
abbrev pub AreStoreCalls : {D : Type 0} {g : _} {T : Type 0} → (D → ℕ) → (D → Outlook) → Store D g
    → Store D g → Result T Refusal → Type 0
AreStoreCalls failures outlook old new result =
    MatchResult result (λ _. NoneFailed failures outlook old new)
    (λ e. (e ≡ DeviceFailed) × LastFailed failures outlook old new)

-- no call was made, and the store is as it was
abbrev pub IsUntouched : {D : Type 0} {g : _} → (D → State) → Store D g → Store D g → Type 0
IsUntouched state old new =
    (store_state state new ≡ store_state state old) × (disk_of new ≡ disk_of old)

-- ---- how many calls were made: by what was known of the coming ones before them and after them

-- this number succeeded
abbrev pub HaveSucceeded : ℕ → Outlook → Outlook → Type 0
HaveSucceeded made Unknown new = new ≡ Unknown
HaveSucceeded made AllSucceed new = new ≡ AllSucceed
HaveSucceeded made (FailsAfter left) new = (made ≤ left) × (new ≡ FailsAfter (left - made))

-- this number succeeded, and the one after them failed
abbrev pub HasFailedAfter : ℕ → Outlook → Outlook → Type 0
HasFailedAfter made Unknown new = new ≡ Unknown
HasFailedAfter made AllSucceed new = ⊥
HasFailedAfter made (FailsAfter left) new = (left ≡ made) × (new ≡ AllSucceed)

-- one failed, after at least the first number and fewer than the second number of calls that
-- succeeded
abbrev pub HasFailedWithin : ℕ → ℕ → Outlook → Outlook → Type 0
HasFailedWithin least most old new =
    (made : ℕ) × ((least ≤ made) × ((made < most) × HasFailedAfter made old new))

-- how many calls make room for the largest batch: if the journal doesn't have it, those of a
-- checkpoint, and two more if the other area's gate has to be closed first
abbrev pub calls_of_room : StoreState → ℕ
calls_of_room s =
    if nat_le (s.log.next + LARGEST_BATCH) s.log.areas.live.end
    then 0 else if s.log.other_open then 6 else 4
