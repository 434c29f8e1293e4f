use Rattle.store_layout.proofs.EntryLaws.{leads_keep}
use Rattle.store_layout.proofs.laws.entries_keep_the_network.Goals as goal

pub returns-clause-net_id : goal.returns-clause-net_id
returns-clause-net_id c v t u es lead = (leads_keep v t u es lead).0

pub returns-clause-slots : goal.returns-clause-slots
returns-clause-slots c v t u es lead = (leads_keep v t u es lead).1
