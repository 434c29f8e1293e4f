use Rattle.std.proofs.Common.{sym, subst}
use Rattle.disk.specs.State.{IsPermitted}
use Rattle.gate_log.specs.Areas.{contents_with_batch}
use Rattle.store.specs.Phases.{gate_written_sequel}
use Rattle.store.specs.State.{IsSettled, store_state}
use Rattle.store.proofs.Holding.{held_either, held_with}
use Rattle.store.proofs.phases.GateWritten.sync.Goals as goal

pub returns-in-Ok-clause-settled : goal.returns-in-Ok-clause-settled
returns-in-Ok-clause-settled g c honest on =
    let s = store_state g.D.Disk.state c.args.store.now in
    let sequel = gate_written_sequel c.args.self in
    let rest = c.in-Ok.ensures.next honest on.contents on.batch on.log in
    subst IsSettled (sym c.complete.ensures.store) (record {
      contents = contents_with_batch on.contents on.batch;
      rest = rest;
      says = on.journals.after;
    })

pub returns-in-Ok-clause-durable : goal.returns-in-Ok-clause-durable
returns-in-Ok-clause-durable g c honest on image permitted =
    held_with (store_state g.D.Disk.state c.args.store.now) (gate_written_sequel c.args.self) on.contents on.batch on.journals image
    (c.in-Ok.ensures.durable honest on.contents on.batch on.log image (subst (λ d. IsPermitted (g.D.Disk.state d) image) c.complete.ensures.disk permitted))

pub returns-in-Ok-clause-images : goal.returns-in-Ok-clause-images
returns-in-Ok-clause-images g c honest on image permitted =
    held_either (store_state g.D.Disk.state c.args.store.now) (gate_written_sequel c.args.self) on.contents on.batch on.journals image
    (c.in-Ok.ensures.images honest on.contents on.batch on.log image (subst (λ d. IsPermitted (g.D.Disk.state d) image) c.complete.ensures.disk permitted))

pub returns-in-Err-clause-images : goal.returns-in-Err-clause-images
returns-in-Err-clause-images g c honest on image permitted =
    held_either (store_state g.D.Disk.state c.args.store.now) (gate_written_sequel c.args.self) on.contents on.batch on.journals image
    (c.in-Err.ensures.images honest on.contents on.batch on.log image (subst (λ d. IsPermitted (g.D.Disk.state d) image) c.fail.ensures.disk permitted))
