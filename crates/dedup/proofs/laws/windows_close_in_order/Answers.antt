use Rattle.dedup.proofs.Standing.{stand_closed}
use Rattle.dedup.proofs.laws.windows_close_in_order.Goals as goal

pub returns : goal.returns
returns c = stand_closed
