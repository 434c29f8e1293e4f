use Rattle.dedup.proofs.Standing.{all_closed}
use Rattle.dedup.proofs.laws.all_due_groups_are_closed.Goals as goal

pub returns : goal.returns
returns c = all_closed
