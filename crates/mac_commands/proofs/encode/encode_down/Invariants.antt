use Rattle.std.proofs.Common.{◌≡◌, take}
use Rattle.mac_commands.specs.Commands.{spelling}
use Rattle.mac_commands.proofs.encode.encode_down.Given as goal

abbrev pub invariant-loop-command : goal.invariant-loop-command
invariant-loop-command l = l.bytes.items ≡ spelling (take l.command-index l.commands)
