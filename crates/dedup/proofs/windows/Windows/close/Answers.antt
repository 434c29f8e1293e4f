use Rattle.dedup.proofs.Keeping.{kept_closed}
use Rattle.dedup.proofs.windows.Windows.close.Goals as goal

pub invariant_of-self-2 : goal.invariant_of-self-2
invariant_of-self-2 c = rw c.in_ok-phy_payload.ensures.rest (kept_closed c.self.inside.gatherings c.self.invariant)
