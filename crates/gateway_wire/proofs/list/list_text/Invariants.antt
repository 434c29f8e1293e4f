use Rattle.std.proofs.Common.{◌≡◌, take}
use Rattle.std.specs.String.{string_bytes}
use Rattle.gateway_wire.specs.DeviceList.{device_lines}
use Rattle.gateway_wire.proofs.list.list_text.Given as goal

abbrev pub invariant-loop-slot : goal.invariant-loop-slot
invariant-loop-slot l = string_bytes l.text ≡ device_lines 0 (take l.slot l.devices)
