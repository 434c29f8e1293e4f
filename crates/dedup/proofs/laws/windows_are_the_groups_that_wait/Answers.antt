use Rattle.dedup.proofs.Refusing.{they_wait}
use Rattle.dedup.proofs.laws.windows_are_the_groups_that_wait.Goals as goal

pub returns : goal.returns
returns c = they_wait
