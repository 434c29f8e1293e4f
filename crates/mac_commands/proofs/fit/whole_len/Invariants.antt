use Rattle.std.proofs.Common.{List, length}
use Rattle.mac_commands.specs.declared.command.MacCommand.{MacCommand}
use Rattle.mac_commands.proofs.Reading.{HasRead}
use Rattle.mac_commands.proofs.fit.whole_len.Given as goal

abbrev pub invariant-loop-front : goal.invariant-loop-front
invariant-loop-front l = (commands : List MacCommand) × HasRead l.direction l.bytes commands l.rest

abbrev pub decreases-loop-front : goal.decreases-loop-front
decreases-loop-front l = length l.rest
