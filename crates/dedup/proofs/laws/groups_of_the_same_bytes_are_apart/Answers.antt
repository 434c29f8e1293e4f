use Rattle.dedup.proofs.Refusing.{groups_apart}
use Rattle.dedup.proofs.laws.groups_of_the_same_bytes_are_apart.Goals as goal

pub returns : goal.returns
returns c = groups_apart
