use Rattle.std.proofs.Common.{Err, ap, refl}
use Rattle.store.proofs.recover.recover.Goals as goal

pub returns-in-Err-Damaged-clause-refused : goal.returns-in-Err-Damaged-clause-refused
returns-in-Err-Damaged-clause-refused g c honest live a b =
    (refl, c.in-Err-Damaged.ensures.damaged honest live.is (ap Err c.in-Err-Damaged.field-0-is))
