use Rattle.dedup.proofs.Standing.{added_stays}
use Rattle.dedup.proofs.laws.a_copy_makes_no_window_due.Goals as goal

pub returns : goal.returns
returns c = λ ws after now copy. added_stays ws now copy after
