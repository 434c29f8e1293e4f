use Rattle.std.proofs.Common.{sym, subst}
use Rattle.disk.specs.State.{IsPermitted}
use Rattle.gate_log.specs.Areas.{contents_with_batch}
use Rattle.store.specs.Pairing.{paired_sequel}
use Rattle.store.specs.Phases.{IsBodySyncedOn}
use Rattle.store.specs.State.{store_state}
use Rattle.store.proofs.Holding.{held_either, held_with}
use Rattle.store.proofs.pairing.Paired.sync.Goals as goal

pub returns-in-Ok-clause-durable : goal.returns-in-Ok-clause-durable
returns-in-Ok-clause-durable g c honest on image permitted =
    held_with (store_state g.D.Disk.state c.args.store.now) (paired_sequel c.args.self) on.contents on.batch on.journals image
    (c.in-Ok.ensures.durable honest on.contents on.batch on.following on.log image (subst (λ d. IsPermitted (g.D.Disk.state d) image) c.complete.ensures.disk permitted))

pub returns-in-Ok-clause-images : goal.returns-in-Ok-clause-images
returns-in-Ok-clause-images g c honest on image permitted =
    held_either (store_state g.D.Disk.state c.args.store.now) (paired_sequel c.args.self) on.contents on.batch on.journals image
    (c.in-Ok.ensures.images honest on.contents on.batch on.following on.log image (subst (λ d. IsPermitted (g.D.Disk.state d) image) c.complete.ensures.disk permitted))

pub returns-in-Err-clause-images : goal.returns-in-Err-clause-images
returns-in-Err-clause-images g c honest on image permitted =
    held_either (store_state g.D.Disk.state c.args.store.now) (paired_sequel c.args.self) on.contents on.batch on.journals image
    (c.in-Err.ensures.images honest on.contents on.batch on.following on.log image (subst (λ d. IsPermitted (g.D.Disk.state d) image) c.fail.ensures.disk permitted))

pub returns-in-Ok-clause-next : goal.returns-in-Ok-clause-next
returns-in-Ok-clause-next g c honest on =
    let both = contents_with_batch on.contents on.batch in
    subst (λ s. IsBodySyncedOn s (record { phase = c.in-Ok.phase; commit = c.args.self.following })) (sym c.complete.ensures.store) (record {
      contents = both;
      batch = on.following;
      journals = record { slots = on.extends.slots; before = on.journals.after; after = on.extends.says both on.journals.after };
      log = c.in-Ok.ensures.next honest on.contents on.batch on.following on.log;
    })
