-- Tables after changes.
use Rattle.std.specs.Prelude.{◌≡◌, ◌<◌, ℕ, ◌++◌, List, length, map, Option, Some, None}
use Rattle.std.specs.List.{filter_map}
use Rattle.devices.specs.declared.device.Device.{Device}
use Rattle.sessions.specs.Table.{TableState, empty_table, slot_of}
use Rattle.device_changes.specs.Change.{row_of}
use Rattle.device_changes.specs.Device.{record_with_change, imported_device}
use Rattle.device_changes.specs.declared.change.Change.{Change}
use Rattle.device_changes.specs.declared.change.Change.TheVariants.{Import, Amend, Retire}

abbrev pub changed_as : Option Change → Device → Device
changed_as None d = d
changed_as (Some change) d = record_with_change change d

-- a device after the change in the row of its DevEUI, if there is one
abbrev pub changed_by : List Change → Device → Device
changed_by rows d = changed_as (row_of rows d.dev_eui.0) d

-- the device that a row brings
abbrev pub imported_in : Change → Option Device
imported_in (Import i) = Some (imported_device i)
imported_in (Amend a) = None
imported_in (Retire r) = None

-- the devices that rows bring, in order
abbrev pub imported_devices : List Change → List Device
imported_devices rows = filter_map imported_in rows

-- each device keeps its slot and is changed as the row of its DevEUI says; the imported ones get
-- the next slots
abbrev pub changed_table : List Change → TableState → TableState
changed_table rows t =
    record t { devices = map (changed_by rows) t.devices ++ imported_devices rows }

-- a new network of imported devices
abbrev pub imported_table : ℕ → ℕ → List Change → TableState
imported_table net_id slots rows = changed_table rows (empty_table net_id slots)

-- the same devices at the same slots, with their sessions and queues, and another number of slots
abbrev pub grown_table : ℕ → TableState → TableState
grown_table slots t = record t { slots = slots }

-- the next slot is free for the device that the row brings, which the table doesn't have
abbrev pub CanTake : TableState → Change → Type 0
CanTake t (Import i) =
    (length t.devices < t.slots) × (slot_of i.provisioning.dev_eui.0 t.devices ≡ None)
CanTake t (Amend a) = Unit {0}
CanTake t (Retire r) = Unit {0}
