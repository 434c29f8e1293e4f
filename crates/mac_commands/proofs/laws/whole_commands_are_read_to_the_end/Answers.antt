use Rattle.mac_commands.proofs.Reading.{read_to_the_end}
use Rattle.mac_commands.proofs.laws.whole_commands_are_read_to_the_end.Goals as goal

pub returns : goal.returns
returns c = read_to_the_end
