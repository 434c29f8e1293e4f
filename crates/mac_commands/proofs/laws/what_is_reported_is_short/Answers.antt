use Rattle.mac_commands.proofs.CommandsIn.{few_told}
use Rattle.mac_commands.proofs.laws.what_is_reported_is_short.Goals as goal

pub returns : goal.returns
returns c = few_told
