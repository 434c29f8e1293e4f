use Rattle.std.proofs.Common.{◌≡◌, length}
use Rattle.mac_commands.specs.Reading.{asks_link_check}
use Rattle.mac_commands.proofs.uplink.asks_link_check.Given as goal

abbrev pub invariant-loop-front : goal.invariant-loop-front
invariant-loop-front l = asks_link_check l.bytes ≡ asks_link_check l.rest

abbrev pub decreases-loop-front : goal.decreases-loop-front
decreases-loop-front l = length l.rest
