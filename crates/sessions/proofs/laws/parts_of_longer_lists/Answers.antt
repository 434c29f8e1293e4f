use Rattle.sessions.proofs.Subsequences.{extended, longer}
use Rattle.sessions.proofs.laws.parts_of_longer_lists.Goals as goal

pub returns-clause-longer : goal.returns-clause-longer
returns-clause-longer c = longer

pub returns-clause-extended : goal.returns-clause-extended
returns-clause-extended c = extended
