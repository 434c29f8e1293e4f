use Rattle.sessions.proofs.Runs.{folded-append, effects_of-append}
use Rattle.sessions.proofs.laws.composing.Goals as goal

pub returns-clause-table : goal.returns-clause-table
returns-clause-table c = folded-append

pub returns-clause-effects : goal.returns-clause-effects
returns-clause-effects c = effects_of-append
