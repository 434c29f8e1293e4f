use Rattle.dedup.proofs.Refusing.{refused_by_group, refused_with_none}
use Rattle.dedup.proofs.laws.groups_that_wait_refuse.Goals as goal

pub returns-clause-by_its_group : goal.returns-clause-by_its_group
returns-clause-by_its_group c = refused_by_group

pub returns-clause-with_no_group : goal.returns-clause-with_no_group
returns-clause-with_no_group c = refused_with_none
