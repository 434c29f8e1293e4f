use Rattle.std.proofs.Common.{◌∙◌, ◌+◌, ap, sym, subst}
use Rattle.disk.specs.State.{IsPermitted}
use Rattle.gate_log.specs.Areas.{contents_with_checkpoint}
use Rattle.store.proofs.Republishing.{same_table_either}
use Rattle.store.proofs.checkpointing.CheckpointOpened.sync.Goals as goal

pub returns-in-Ok-clause-settled : goal.returns-in-Ok-clause-settled
returns-in-Ok-clause-settled g c honest on = record {
  contents = contents_with_checkpoint on.contents on.header on.records;
  rest = c.in-Ok.ensures.next honest on.contents on.header on.records on.log;
  says = on.republishes.after;
}

pub returns-in-Ok-clause-generation : goal.returns-in-Ok-clause-generation
returns-in-Ok-clause-generation g c honest on =
    let rest = c.in-Ok.ensures.next honest on.contents on.header on.records on.log in
    rest.knows.generation ∙ (on.republishes.next ∙ ap (λ n. n + 1) (sym on.log.knows.generation))

pub returns-in-Ok-clause-images : goal.returns-in-Ok-clause-images
returns-in-Ok-clause-images g c honest on image permitted =
    same_table_either on.republishes image (c.in-Ok.ensures.images honest on.contents on.header on.records on.log image permitted)

pub returns-in-Err-clause-images : goal.returns-in-Err-clause-images
returns-in-Err-clause-images g c honest on image permitted =
    same_table_either on.republishes image
    (c.in-Err.ensures.images honest on.contents on.header on.records on.log image (subst (λ d. IsPermitted (g.D.Disk.state d) image) c.fail.ensures.disk permitted))
