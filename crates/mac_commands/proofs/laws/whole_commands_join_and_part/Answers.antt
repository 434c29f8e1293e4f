use Rattle.mac_commands.proofs.Reading.{joined, parted}
use Rattle.mac_commands.proofs.laws.whole_commands_join_and_part.Goals as goal

pub returns-clause-join : goal.returns-clause-join
returns-clause-join c = joined

pub returns-clause-part : goal.returns-clause-part
returns-clause-part c = parted
