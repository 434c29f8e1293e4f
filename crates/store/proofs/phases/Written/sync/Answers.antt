use Rattle.std.proofs.Common.{subst}
use Rattle.disk.specs.State.{IsPermitted}
use Rattle.store.specs.Phases.{written_sequel}
use Rattle.store.specs.State.{store_state}
use Rattle.store.proofs.Holding.{held}
use Rattle.store.proofs.phases.Written.sync.Goals as goal

pub returns-in-Ok-clause-next : goal.returns-in-Ok-clause-next
returns-in-Ok-clause-next g c honest on = record {
  contents = on.contents;
  batch = on.batch;
  journals = record { slots = on.journals.slots; before = on.journals.before; after = on.journals.after };
  log = c.in-Ok.ensures.next honest on.contents on.batch on.log;
}

pub returns-in-Ok-clause-images : goal.returns-in-Ok-clause-images
returns-in-Ok-clause-images g c honest on image permitted =
    held (store_state g.D.Disk.state c.args.store.now) (written_sequel c.args.self) on.contents on.batch on.journals image
    (c.in-Ok.ensures.images honest on.contents on.batch on.log image permitted)

pub returns-in-Err-clause-images : goal.returns-in-Err-clause-images
returns-in-Err-clause-images g c honest on image permitted =
    held (store_state g.D.Disk.state c.args.store.now) (written_sequel c.args.self) on.contents on.batch on.journals image
    (c.in-Err.ensures.images honest on.contents on.batch on.log image (subst (λ d. IsPermitted (g.D.Disk.state d) image) c.fail.ensures.disk permitted))
