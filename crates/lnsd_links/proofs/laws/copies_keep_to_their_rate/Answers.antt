use Rattle.std.proofs.Common.{arith}
use Rattle.lnsd_links.proofs.Rates.{all_paid}
use Rattle.lnsd_links.proofs.laws.copies_keep_to_their_rate.Goals as goal

pub returns-clause-earned : goal.returns-clause-earned
returns-clause-earned c payments old new paid = omega (arith, (all_paid payments old new paid).0)

pub returns-clause-burst : goal.returns-clause-burst
returns-clause-burst c payments old new paid few = omega (arith, (all_paid payments old new paid).0, few)
