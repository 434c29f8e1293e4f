use Rattle.std.proofs.Common.{◌≡◌, map, take}
use Rattle.device_lists.specs.Lists.{faulty_line}
use Rattle.device_lists.proofs.reading.DeviceList.faulty_lines.Given as goal

abbrev pub invariant-loop-row : goal.invariant-loop-row
invariant-loop-row l = l.found.items ≡ map (faulty_line l.self.lines.items) (take l.row-index l.rows)
