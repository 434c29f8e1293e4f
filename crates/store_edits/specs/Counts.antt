-- What a command reports of a store that it changed.
use Rattle.std.specs.Prelude.{ℕ, Bool, ◌-◌, length, is_some}
use Rattle.std.specs.List.{count_by}
use Rattle.device_changes.specs.Waiting.{waiting_in}
use Rattle.devices.specs.declared.device.Device.{Device}
use Rattle.sessions.specs.Table.{TableState}
use Rattle.store_edits.specs.declared.editing.EditCounts.{EditCounts}
use Rattle.store_edits.specs.declared.editing.Ongoing.{Ongoing}

abbrev pub has_current : Device → Bool
has_current d = is_some d.activation.current

-- how many devices have a session, and how many items wait for devices
abbrev pub ongoing_in : TableState → Ongoing
ongoing_in t = record { sessions = count_by has_current t.devices; items = waiting_in t }

-- what became of them
abbrev pub counts_after : Ongoing → ℕ → TableState → EditCounts
counts_after before changed t = record {
  changed = changed;
  devices = length t.devices;
  slots = t.slots;
  sessions_ended = before.sessions - (ongoing_in t).sessions;
  items_dropped = before.items - (ongoing_in t).items;
}
