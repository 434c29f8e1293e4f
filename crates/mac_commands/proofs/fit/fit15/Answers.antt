use Rattle.std.proofs.Common.{rules}
use Rattle.mac_commands.proofs.Reading.{is_longest}
use Rattle.mac_commands.proofs.fit.fit15.Goals as goal

pub returns-clause-longest : goal.returns-clause-longest
returns-clause-longest c = search (rules, is_longest)
