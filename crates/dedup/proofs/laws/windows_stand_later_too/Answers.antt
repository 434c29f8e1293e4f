use Rattle.dedup.proofs.Standing.{stand_later}
use Rattle.dedup.proofs.laws.windows_stand_later_too.Goals as goal

pub returns : goal.returns
returns c = stand_later
