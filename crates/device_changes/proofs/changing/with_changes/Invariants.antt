-- the imports so far are made, and no later row is faulty
use Rattle.std.proofs.Common.{◌≡◌, [], take, drop}
use Rattle.device_changes.specs.Faults.{faults_after}
use Rattle.device_changes.proofs.Rows.{devices_after}
use Rattle.device_changes.proofs.changing.with_changes.Given as goal

abbrev pub invariant-loop-change : goal.invariant-loop-change
invariant-loop-change l =
    (l.changed ≡ record l.table { devices = devices_after l.rows l.table (take l.change-index l.rows) })
    × (faults_after l.table (take l.change-index l.rows) (drop l.change-index l.rows) ≡ [])
