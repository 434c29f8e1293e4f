use Rattle.std.proofs.Common.{sym}
use Rattle.dedup.proofs.Keeping.{next_due_is}
use Rattle.dedup.proofs.windows.Windows.next_due.Goals as goal

pub returns : goal.returns
returns c = rw (← c.self.view_is) (next_due_is c.self.inside.gatherings _ _ (sym c.in_ok-gathering.ensures) c.checked_add.ensures)
