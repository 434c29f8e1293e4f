-- How a table is stored.
use Rattle.devices.specs.declared.device.Device.{Device}
use Rattle.std.specs.Prelude.{List, Some, slice_get, ◌≡◌, ◌≤◌, ◌-◌, ℕ, nat_eq, length, vec_capacity}
use Rattle.std.specs.HashMap.{get, spare}
use Rattle.sessions.specs.Table.{TableState, slot_of}
use Rattle.sessions.specs.declared.table.TheConstants.{MOST_SLOTS}
use Rattle.sessions.specs.declared.table.Table.TheInside.{Inside}

abbrev pub table_of : Inside → TableState
table_of t = record { net_id = t.net_id; slots = t.slots; devices = t.devices.items }

-- each device is found at its own slot, so no two have the same DevEUI
abbrev pub HaveOwnSlots : List Device → Type 0
HaveOwnSlots devices =
    (slot : ℕ) (d : Device) → slice_get devices slot ≡ Some d
    → slot_of d.dev_eui.0 devices ≡ Some slot

-- the index has the slot of each DevEUI, and there is room for every slot
pub record IsIndexed (t : Inside) : Type 0 where
  pub few : length t.devices.items ≤ t.slots
  pub slots : t.slots ≤ MOST_SLOTS
  pub finds : (dev_eui : ℕ) → get nat_eq t.index dev_eui ≡ slot_of dev_eui t.devices.items
  pub own : HaveOwnSlots t.devices.items
  pub room : t.slots ≤ vec_capacity t.devices
  pub spare : t.slots - length t.devices.items ≤ spare t.index
