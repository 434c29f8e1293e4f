use Rattle.mac_commands.proofs.Reading.{same_commands, same_stop}
use Rattle.mac_commands.proofs.laws.bytes_are_read_in_one_way.Goals as goal

pub returns-clause-commands : goal.returns-clause-commands
returns-clause-commands c = same_commands

pub returns-clause-stop : goal.returns-clause-stop
returns-clause-stop c = same_stop
