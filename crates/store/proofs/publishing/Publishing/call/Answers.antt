use Rattle.std.proofs.Common.{◌∙◌, Ok, Some, subst, sym, refl}
use Rattle.std.proofs.lemmas.Result.{err_from_is_err_and}
use Rattle.store.specs.Publishing.{IsPublishingCall}
use Rattle.store.specs.State.{store_state}
use Rattle.store.specs.declared.publishing.Publishing.TheVariants.{Begun, Retiring, Written, Synced}
use Rattle.store.proofs.NextCalls.{five_left, four_left, publishing_fails, three_left}
use Rattle.store.proofs.publishing.Publishing.call.Goals as goal

pub returns-in_err-retire-in-Begun-clause-next : goal.returns-in_err-retire-in-Begun-clause-next
returns-in_err-retire-in-Begun-clause-next g c =
    let e = c.in_err-retire-in-Begun.ensures in
    let refused = err_from_is_err_and c.from_residual.result c.from_residual.ensures.1 in
    subst (λ p. IsPublishingCall g.D.Disk c.args.store.now p c.from_residual.result c.retire.new.store) (sym c.in-Begun.is)
    (publishing_fails g.D.Disk c.args.store.now c.retire.new.store (Begun c.in-Begun.phase) c.from_residual.result refused.0 refused.1 e.kept.table e.kept.seq e.images)

pub returns-in_err-write-in-Begun-2-clause-next : goal.returns-in_err-write-in-Begun-2-clause-next
returns-in_err-write-in-Begun-2-clause-next g c =
    let e = c.in_err-write-in-Begun-2.ensures in
    let refused = err_from_is_err_and c.from_residual-in_err-write-in-Begun-2.result c.from_residual-in_err-write-in-Begun-2.ensures.1 in
    subst (λ p. IsPublishingCall g.D.Disk c.args.store.now p c.from_residual-in_err-write-in-Begun-2.result c.write.new.store) (sym c.in-Begun.is)
    (publishing_fails g.D.Disk c.args.store.now c.write.new.store (Begun c.in-Begun.phase) c.from_residual-in_err-write-in-Begun-2.result refused.0 refused.1 e.kept.table e.kept.seq e.images)

pub returns-in_ok-retire-in-Begun-clause-next : goal.returns-in_ok-retire-in-Begun-clause-next
returns-in_ok-retire-in-Begun-clause-next g c =
    let e = c.in_ok-retire-in-Begun.ensures in
    subst (λ p. IsPublishingCall g.D.Disk c.args.store.now p (Ok (Some (Retiring c.in_ok-retire-in-Begun.field-0))) c.retire.new.store) (sym c.in-Begun.is)
    (record {
      fits = e.fits;
      calls = five_left (store_state g.D.Disk.state c.args.store.now).log.other_open (sym c.must_retire.ensures ∙ c.if-must_retire.true);
      table = e.kept.table;
      seq = e.kept.seq;
      on_disk = e.next;
      images = e.images;
      generation = λ honest on. e.kept.generation;
    })

pub returns-in_ok-write-in-Begun-2-clause-next : goal.returns-in_ok-write-in-Begun-2-clause-next
returns-in_ok-write-in-Begun-2-clause-next g c =
    let e = c.in_ok-write-in-Begun-2.ensures in
    subst (λ p. IsPublishingCall g.D.Disk c.args.store.now p (Ok (Some (Written c.in_ok-write-in-Begun-2.field-0))) c.write.new.store) (sym c.in-Begun.is)
    (record {
      fits = e.fits;
      calls = three_left (store_state g.D.Disk.state c.args.store.now).log.other_open (sym c.must_retire.ensures ∙ c.if-must_retire.false);
      table = e.kept.table;
      seq = e.kept.seq;
      on_disk = e.next;
      images = e.images;
      generation = λ honest on. e.kept.generation;
    })

pub returns-in_ok-sync-in-Retiring-clause-next : goal.returns-in_ok-sync-in-Retiring-clause-next
returns-in_ok-sync-in-Retiring-clause-next g c =
    let e = c.in_ok-sync-in-Retiring.ensures in
    subst (λ p. IsPublishingCall g.D.Disk c.args.store.now p (Ok (Some (Begun c.in_ok-sync-in-Retiring.field-0))) c.sync.new.store) (sym c.in-Retiring.is)
    (record {
      fits = e.fits;
      calls = four_left (store_state g.D.Disk.state c.sync.new.store).log.other_open e.closed;
      table = e.kept.table;
      seq = e.kept.seq;
      on_disk = e.next;
      images = e.images;
      generation = λ honest on. e.kept.generation;
    })

pub returns-in_ok-sync-in-Written-clause-next : goal.returns-in_ok-sync-in-Written-clause-next
returns-in_ok-sync-in-Written-clause-next g c =
    let e = c.in_ok-sync-in-Written.ensures in
    subst (λ p. IsPublishingCall g.D.Disk c.args.store.now p (Ok (Some (Synced c.in_ok-sync-in-Written.field-0))) c.sync-in-Written.new.store) (sym c.in-Written.is)
    (record {
      fits = e.fits;
      calls = refl;
      table = e.kept.table;
      seq = e.kept.seq;
      on_disk = e.next;
      images = e.images;
      generation = λ honest on. e.kept.generation;
    })
