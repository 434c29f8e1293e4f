use Rattle.std.proofs.Common.{arith}
use Rattle.std.proofs.lemmas.Bool.Decides.{nat_tests}
use Rattle.store.proofs.store.Store.roomy.Goals as goal

pub returns : goal.returns
returns g c = grind (arith, nat_tests)
