-- Which rows are refused, and why.
use Rattle.std.specs.Prelude.{◌≡◌, ◌≢◌, ℕ, ◌+◌, Bool, false, nat_lt, if◌then◌else◌, List, []}
use Rattle.std.specs.Prelude.{◌∷◌, ◌++◌}
use Rattle.std.specs.Prelude.{length, Option, Some, None, slice_get, unwrap_or}
use Rattle.devices.specs.declared.device.Device.{Device}
use Rattle.sessions.specs.Table.{TableState, slot_of}
use Rattle.device_changes.specs.Change.{is_named, row_name}
use Rattle.device_changes.specs.Table.{imported_devices}
use Rattle.device_changes.specs.declared.change.Amendment.{Amendment}
use Rattle.device_changes.specs.declared.change.Change.{Change}
use Rattle.device_changes.specs.declared.change.Change.TheVariants.{Import, Amend, Retire}
use Rattle.device_changes.specs.declared.fault.RowFault.{RowFault}
use Rattle.device_changes.specs.declared.fault.RowFault.TheVariants.{Repeated, UnknownDevEui}
use Rattle.device_changes.specs.declared.fault.RowFault.TheVariants.{DevEuiTaken, TableFull}
use Rattle.device_changes.specs.declared.fault.RowFault.TheVariants.{JoinNonceLowered}
use Rattle.device_changes.specs.declared.fault.FaultyRow.{FaultyRow}
use Rattle.device_changes.specs.declared.fault.Refused.{Refused}
use Rattle.device_changes.specs.declared.fault.Refused.TheVariants.{Rows, OutOfMemory}

-- a new device needs a DevEUI that no device has, and a slot after as many imports in earlier rows,
-- faulty ones included
abbrev pub import_fault : TableState → ℕ → Option ℕ → Option RowFault
import_fault t earlier (Some taken) = Some DevEuiTaken
import_fault t earlier None =
    if nat_lt (length t.devices + earlier) t.slots then None else Some TableFull

-- whether a row gives a JoinNonce below the last granted one
abbrev pub lowers : Option ℕ → Device → Bool
lowers None d = false
lowers (Some last) d = nat_lt last (unwrap_or d.activation.granted 0)

abbrev pub lowering_fault : Amendment → Option Device → Option RowFault
lowering_fault a None = None  -- not reached
lowering_fault a (Some d) = if lowers a.last_join_nonce d then Some JoinNonceLowered else None

-- the device at the slot of the DevEUI must not get a lower JoinNonce
abbrev pub amend_fault : TableState → Amendment → Option ℕ → Option RowFault
amend_fault t a None = Some UnknownDevEui
amend_fault t a (Some slot) = lowering_fault a (slice_get t.devices slot)

abbrev pub retire_fault : Option ℕ → Option RowFault
retire_fault None = Some UnknownDevEui
retire_fault (Some slot) = None

-- what is wrong with a change in a table, after these earlier rows
abbrev pub change_fault : TableState → List Change → Change → Option RowFault
change_fault t earlier (Import i) =
    import_fault t (length (imported_devices earlier))
    (slot_of i.provisioning.dev_eui.0 t.devices)
change_fault t earlier (Amend a) = amend_fault t a (slot_of a.dev_eui.0 t.devices)
change_fault t earlier (Retire r) = retire_fault (slot_of r.dev_eui.0 t.devices)

-- what is wrong with a row after these earlier ones: first, a device has one row only
abbrev pub row_fault : TableState → List Change → Change → Option RowFault
row_fault t earlier change =
    if is_named earlier (row_name change) then Some Repeated else change_fault t earlier change

abbrev pub faulty : ℕ → Option RowFault → List FaultyRow
faulty row None = []
faulty row (Some fault) = record { row = row; fault = fault } ∷ []

-- the faulty ones of these rows, which come after the earlier ones; rows are counted from 0
abbrev pub faults_after : TableState → List Change → List Change → List FaultyRow
faults_after t earlier [] = []
faults_after t earlier (change ∷ rows) =
    faulty (length earlier) (row_fault t earlier change)
    ++ faults_after t (earlier ++ change ∷ []) rows

-- every faulty row, in order
abbrev pub faults_of : TableState → List Change → List FaultyRow
faults_of t rows = faults_after t [] rows

-- the rows were refused because of exactly these faults; or memory ran out
abbrev pub IsRefusedFor : List FaultyRow → Refused → Type 0
IsRefusedFor faults (Rows found) = (found.items ≡ faults) × (faults ≢ [])
IsRefusedFor faults OutOfMemory = Unit {0}
