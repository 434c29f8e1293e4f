use Rattle.store.proofs.Holding.{have_length_after}
use Rattle.store.proofs.store.Store.complete.Goals as goal

pub invariant_of-self : goal.invariant_of-self
invariant_of-self g c =
    let store = c.args.self.now in
    record { long = have_length_after store.table c.set_all-batch.new.self c.args.commit.batch store.log.areas c.set_all-batch.ensures.table store.long }
