-- this number of the commands were added
use Rattle.std.proofs.Common.{◌≡◌, ◌++◌, take}
use Rattle.world_model.proofs.model.add.Given as goal

abbrev pub invariant-loop-command : goal.invariant-loop-command
invariant-loop-command l = l.commands.items ≡ l.fn.commands.items ++ take l.command-index l.more
