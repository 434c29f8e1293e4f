use Rattle.std.proofs.Common.{◌≡◌, ◌++◌, take}
use Rattle.std.specs.String.{string_bytes}
use Rattle.device_lists.specs.Export.{csv_lines, head_line}
use Rattle.device_lists.proofs.export.list_of.Given as goal

abbrev pub invariant-loop-device : goal.invariant-loop-device
invariant-loop-device l = string_bytes l.text ≡ head_line ++ csv_lines l.fn.keys (take l.device-index l.devices)
