use Rattle.devices.proofs.Best.{best_is, better_is, is_better_of, only_best}
use Rattle.devices.proofs.laws.the_best_copy_is_heard_best.Goals as goal

pub returns-clause-better : goal.returns-clause-better
returns-clause-better c = λ a b. (better_is a b, is_better_of a b)

pub returns-clause-best : goal.returns-clause-best
returns-clause-best c = best_is

pub returns-clause-only : goal.returns-clause-only
returns-clause-only c = only_best
