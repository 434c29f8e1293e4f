use Rattle.std.proofs.Common.{length}
use Rattle.mac_commands.proofs.Reading.{HasRead}
use Rattle.mac_commands.proofs.decode.decode.Given as goal

abbrev pub invariant-loop-front : goal.invariant-loop-front
invariant-loop-front l = HasRead l.direction l.bytes l.commands.items l.rest

abbrev pub decreases-loop-front : goal.decreases-loop-front
decreases-loop-front l = length l.rest
