-- the devices so far are changed
use Rattle.std.proofs.Common.{◌≡◌, map, take}
use Rattle.device_changes.specs.Table.{changed_by}
use Rattle.device_changes.proofs.changing.with_changed_devices.Given as goal

abbrev pub invariant-loop-slot : goal.invariant-loop-slot
invariant-loop-slot l =
    l.changed ≡ record l.table { slots = l.fn.slots; devices = map (changed_by l.rows) (take l.slot l.table.devices) }
