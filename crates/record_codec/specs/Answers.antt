-- What reading a record or a change returns.
use Rattle.std.specs.Prelude.{◌≡◌, ◌⊎◌, ℕ, List, Result, Err, IfErr, IfOk, MatchResult}
use Rattle.lw_types.specs.declared.refusal.Refusal.{Refusal}
use Rattle.lw_types.specs.declared.refusal.Refusal.TheVariants.{Damaged, OutOfMemory}
use Rattle.devices.specs.declared.device.Device.{Device}
use Rattle.record_codec.specs.Change.{IsChangeOf, IsSomeChange}
use Rattle.record_codec.specs.DeviceRecord.{spelling, IsDevice, IsSomeRecord}
use Rattle.record_codec.specs.declared.version.RecordVersion.{RecordVersion}

-- the bytes, as a device's record in a version
pub record ReadsRecord (version : RecordVersion) (bytes : List ℕ)
    (answer : Result Device Refusal) : Type 0 where
  -- what is read is spelled this way
  pub found : IfOk answer (λ device. IsDevice version device × (bytes ≡ spelling version device))
  -- what is spelled this way is read, unless memory runs out
  pub only : (device : Device) → IsDevice version device → bytes ≡ spelling version device
      → MatchResult answer (λ found. found ≡ device) (λ e. e ≡ OutOfMemory)
  pub refused : IfErr answer (λ e. (e ≡ OutOfMemory) ⊎ (e ≡ Damaged))
  -- memory runs out only for records
  pub memory : (answer ≡ Err OutOfMemory) → IsSomeRecord version bytes

-- the bytes, as a change of a record in a version
pub record ReadsChange (version : RecordVersion) (before : Device) (bytes : List ℕ)
    (answer : Result Device Refusal) : Type 0 where
  -- the bytes are the change to what is read
  pub found : IfOk answer (λ after. IsChangeOf version before after bytes)
  -- the record to which the bytes are the change is read, unless memory runs out
  pub only : (after : Device) → IsChangeOf version before after bytes
      → MatchResult answer (λ found. found ≡ after) (λ e. e ≡ OutOfMemory)
  pub refused : IfErr answer (λ e. (e ≡ OutOfMemory) ⊎ (e ≡ Damaged))
  -- memory runs out only for changes of the record
  pub memory : (answer ≡ Err OutOfMemory) → IsSomeChange version before bytes
