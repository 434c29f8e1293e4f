use Rattle.std.proofs.Common.{◌≡◌, ◌++◌, length}
use Rattle.mac_commands.specs.Reading.{reported_bytes}
use Rattle.mac_commands.proofs.uplink.read_reported.Given as goal

abbrev pub invariant-loop-front : goal.invariant-loop-front
invariant-loop-front l = reported_bytes l.bytes ≡ l.told.items ++ reported_bytes l.rest

abbrev pub decreases-loop-front : goal.decreases-loop-front
decreases-loop-front l = length l.rest
