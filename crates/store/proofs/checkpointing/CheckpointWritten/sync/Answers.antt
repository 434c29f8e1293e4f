use Rattle.std.proofs.Common.{subst}
use Rattle.disk.specs.State.{IsPermitted}
use Rattle.store.proofs.Republishing.{same_table}
use Rattle.store.proofs.checkpointing.CheckpointWritten.sync.Goals as goal

pub returns-in-Ok-clause-next : goal.returns-in-Ok-clause-next
returns-in-Ok-clause-next g c honest on = record {
  contents = on.contents;
  header = on.header;
  records = on.records;
  republishes = on.republishes;
  log = c.in-Ok.ensures.next honest on.contents on.header on.records on.log;
}

pub returns-in-Ok-clause-images : goal.returns-in-Ok-clause-images
returns-in-Ok-clause-images g c honest on image permitted =
    same_table on.republishes image (c.in-Ok.ensures.images honest on.contents on.header on.records on.log image permitted)

pub returns-in-Err-clause-images : goal.returns-in-Err-clause-images
returns-in-Err-clause-images g c honest on image permitted =
    same_table on.republishes image
    (c.in-Err.ensures.images honest on.contents on.header on.records on.log image (subst (λ d. IsPermitted (g.D.Disk.state d) image) c.fail.ensures.disk permitted))
