-- A disk that is being opened.
use Rattle.std.specs.Prelude.{Result, Ok, Err}
use Rattle.disk.specs.declared.DeviceFailed.{DeviceFailed}
use Rattle.gate_log.specs.declared.opening.Opening.{Opening}

abbrev pub disk_in_opening : {D : Type 0} {g : _} → Opening D g → D
disk_in_opening opening = opening.disk

-- the disk after the sync, which is returned also if that failed
abbrev pub synced_disk : {D : Type 0} {g : _} → Result (Opening D g) (DeviceFailed × D) → D
synced_disk (Ok opening) = opening.disk
synced_disk (Err e) = e.1
