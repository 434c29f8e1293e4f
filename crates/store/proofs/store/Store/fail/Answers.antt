use Rattle.std.proofs.Common.{refl}
use Rattle.store.proofs.store.Store.fail.Goals as goal

pub returns-clause-store : goal.returns-clause-store
returns-clause-store g c = refl
