-- the faults of the rows so far are found
use Rattle.std.proofs.Common.{◌≡◌, ◌++◌, take, drop}
use Rattle.device_changes.specs.Faults.{faults_after, faults_of}
use Rattle.device_changes.proofs.checking.faulty_rows.Given as goal

abbrev pub invariant-loop-row : goal.invariant-loop-row
invariant-loop-row l =
    l.found.items ++ faults_after l.table (take l.row l.rows) (drop l.row l.rows) ≡ faults_of l.table l.rows
