-- Items that wait in a table.
use Rattle.std.specs.Prelude.{ℕ, ◌+◌, is_some, if◌then◌else◌, length, sum_by}
use Rattle.devices.specs.declared.device.Device.{Device}
use Rattle.sessions.specs.Table.{TableState}

-- the items of a device that are queued, and the one whose answer is awaited
abbrev pub waiting_for : Device → ℕ
waiting_for d = length d.items + (if is_some d.awaited then 1 else 0)

abbrev pub waiting_in : TableState → ℕ
waiting_in t = sum_by waiting_for t.devices
