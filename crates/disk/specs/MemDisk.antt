use Rattle.std.specs.Prelude.{ℕ}
use Rattle.disk.specs.declared.mem_disk.MemDisk.{MemDisk}
use Rattle.disk.specs.Fuse.{outlook_of, failures_of}
use Rattle.disk.specs.Outlook.{Outlook}
use Rattle.disk.specs.State.{State}
use Rattle.disk.specs.Tracking.{state_from}

-- the state of a disk in memory
abbrev pub state_of : MemDisk → State
state_of disk = state_from disk.content.items disk.synced.items disk.marks.items

abbrev pub disk_outlook : MemDisk → Outlook
disk_outlook disk = outlook_of disk.fuse

abbrev pub disk_failures : MemDisk → ℕ
disk_failures disk = failures_of disk.fuse
