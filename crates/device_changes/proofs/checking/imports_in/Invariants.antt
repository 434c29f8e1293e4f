-- the imports of the rows so far are counted
use Rattle.std.proofs.Common.{◌≡◌, ◌≤◌, length, take}
use Rattle.device_changes.specs.Table.{imported_devices}
use Rattle.device_changes.proofs.checking.imports_in.Given as goal

abbrev pub invariant-loop-change : goal.invariant-loop-change
invariant-loop-change l =
    (l.imports ≡ length (imported_devices (take l.change-index l.rows))) × (l.imports ≤ l.change-index)
