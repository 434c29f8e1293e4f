use Rattle.sessions.proofs.Runs.{folded-fit, effects_of-fit}
use Rattle.sessions.proofs.laws.folding.Goals as goal

pub returns-clause-table : goal.returns-clause-table
returns-clause-table c = folded-fit

pub returns-clause-effects : goal.returns-clause-effects
returns-clause-effects c = effects_of-fit
