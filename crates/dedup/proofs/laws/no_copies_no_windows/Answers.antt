use Rattle.dedup.proofs.Standing.{none_stand}
use Rattle.dedup.proofs.laws.no_copies_no_windows.Goals as goal

pub returns : goal.returns
returns c = none_stand
