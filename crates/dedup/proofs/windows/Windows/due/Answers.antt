use Rattle.std.proofs.Common.{sym, arith}
use Rattle.dedup.proofs.Keeping.{none_is_due, oldest_is_due}
use Rattle.dedup.proofs.windows.Windows.due.Goals as goal

pub returns-then-saturating_sub-lt-WAIT : goal.returns-then-saturating_sub-lt-WAIT
returns-then-saturating_sub-lt-WAIT c = rw (← c.self.view_is) (none_is_due c.self.inside.gatherings _ c.args.now (sym c.in_ok-phy_payload.ensures) c.self.invariant (omega arith))

pub returns : goal.returns
returns c = rw (← c.self.view_is) (oldest_is_due c.self.inside.gatherings _ c.args.now (sym c.in_ok-phy_payload.ensures) (omega arith))
