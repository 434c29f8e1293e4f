-- The versions that a store has records in.
use Rattle.std.specs.Prelude.{ℕ}
use Rattle.devices.specs.declared.mac_queue.TheConstants.MacQueue.{MOST as LONGEST_MAC_QUEUE}
use Rattle.record_codec.specs.declared.version.RecordVersion.{RecordVersion}
use Rattle.record_codec.specs.declared.version.RecordVersion.TheVariants.{V1, V2}

-- the byte of a version
abbrev pub version_byte : RecordVersion → ℕ
version_byte V1 = 1
version_byte V2 = 2

-- the one that is written
abbrev pub newest : RecordVersion
newest = V2

-- the most bytes of a MAC queue in a version
abbrev pub longest_mac_queue : RecordVersion → ℕ
longest_mac_queue V1 = 64
longest_mac_queue V2 = LONGEST_MAC_QUEUE
