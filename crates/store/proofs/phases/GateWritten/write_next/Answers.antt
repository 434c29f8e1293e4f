use Rattle.std.proofs.Common.{subst}
use Rattle.disk.specs.State.{IsPermitted}
use Rattle.store.specs.Phases.{gate_written_sequel}
use Rattle.store.specs.State.{store_state}
use Rattle.store.proofs.Holding.{held_either}
use Rattle.store.proofs.phases.GateWritten.write_next.Goals as goal

pub returns-in-Ok-clause-next : goal.returns-in-Ok-clause-next
returns-in-Ok-clause-next g c honest on begun = record {
  contents = on.contents;
  batch = on.batch;
  following = begun.batch;
  journals = record { slots = on.journals.slots; before = on.journals.before; after = on.journals.after };
  extends = record { slots = begun.extends.slots; says = begun.extends.says };
  log = c.in-Ok.ensures.next honest on.contents on.batch begun.batch on.log begun.bytes;
}

pub returns-in-Ok-clause-images : goal.returns-in-Ok-clause-images
returns-in-Ok-clause-images g c honest on image permitted =
    held_either (store_state g.D.Disk.state c.args.store.now) (gate_written_sequel c.args.self) on.contents on.batch on.journals image
    (c.in-Ok.ensures.images honest on.contents on.batch on.log image permitted)

pub returns-in-Err-clause-images : goal.returns-in-Err-clause-images
returns-in-Err-clause-images g c honest on image permitted =
    held_either (store_state g.D.Disk.state c.args.store.now) (gate_written_sequel c.args.self) on.contents on.batch on.journals image
    (c.in-Err.ensures.images honest on.contents on.batch on.log image (subst (λ d. IsPermitted (g.D.Disk.state d) image) c.fail.ensures.disk permitted))
