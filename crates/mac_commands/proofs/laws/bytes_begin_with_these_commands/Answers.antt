use Rattle.mac_commands.proofs.CommandsIn.{are_commands}
use Rattle.mac_commands.proofs.laws.bytes_begin_with_these_commands.Goals as goal

pub returns : goal.returns
returns c = are_commands
