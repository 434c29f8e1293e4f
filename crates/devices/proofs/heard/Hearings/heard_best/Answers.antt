use Rattle.std.proofs.Common.{arith}
use Rattle.std.proofs.lemmas.Grind.{common_steps}
use Rattle.devices.proofs.heard.Hearings.heard_best.Goals as goal

pub returns-clause-best : goal.returns-clause-best
returns-clause-best c = grind (arith, common_steps)
