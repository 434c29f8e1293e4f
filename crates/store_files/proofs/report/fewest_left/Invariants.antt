use Rattle.std.proofs.Common.{◌≡◌, take}
use Rattle.store_files.specs.Report.{fewest_left}
use Rattle.store_files.proofs.report.fewest_left.Given as goal

abbrev pub invariant-loop-device : goal.invariant-loop-device
invariant-loop-device l = l.fewest ≡ fewest_left (take l.device-index l.devices)
