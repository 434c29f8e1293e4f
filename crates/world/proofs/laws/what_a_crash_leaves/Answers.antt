use Rattle.world.proofs.Flights.{kept_front, kept_settled, kept_once}
use Rattle.world.proofs.laws.what_a_crash_leaves.Goals as goal

pub returns-clause-beginning : goal.returns-clause-beginning
returns-clause-beginning c = kept_front

pub returns-clause-settled : goal.returns-clause-settled
returns-clause-settled c = kept_settled

pub returns-clause-left : goal.returns-clause-left
returns-clause-left c = kept_once c.of_runs.ensures
