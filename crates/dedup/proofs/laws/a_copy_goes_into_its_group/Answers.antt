use Rattle.dedup.proofs.Standing.{stand_with_one_more}
use Rattle.dedup.proofs.laws.a_copy_goes_into_its_group.Goals as goal

pub returns : goal.returns
returns c = stand_with_one_more
