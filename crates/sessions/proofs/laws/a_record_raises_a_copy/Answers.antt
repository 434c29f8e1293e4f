use Rattle.sessions.proofs.Raising.{own_all, within_all}
use Rattle.sessions.proofs.laws.a_record_raises_a_copy.Goals as goal

pub returns-clause-within : goal.returns-clause-within
returns-clause-within c = within_all

pub returns-clause-own : goal.returns-clause-own
returns-clause-own c = own_all
