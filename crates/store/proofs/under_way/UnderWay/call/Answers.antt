use Rattle.std.proofs.Common.{◌∙◌, [], ◌∷◌, Ok, Some, None, ap, subst, sym, refl}
use Rattle.std.proofs.lemmas.Result.{err_from_is_err_and}
use Rattle.store.specs.Flights.{Stage, all_failed, all_succeeded}
use Rattle.store.specs.Pairing.{following_sequel, paired_sequel, paired_size}
use Rattle.store.specs.Phases.{begun_sequel, written_sequel, body_synced_sequel, body_synced_size, gate_written_sequel, gate_written_size}
use Rattle.store.specs.Publishing.{IsPublishingCall}
use Rattle.store.specs.State.{store_state}
use Rattle.store.specs.UnderWay.{IsNextCall, IsOnItsWay, flight, flights_in}
use Rattle.store.specs.declared.under_way.Called.TheVariants as calls
use Rattle.store.specs.declared.under_way.UnderWay.TheVariants.{Begun, Written, BodySynced, GateWritten, Following, Paired, Checkpoint}
use Rattle.store.proofs.NextCalls.{call_fails, keeps_all, left_either, left_with, left_without}
use Rattle.store.proofs.under_way.UnderWay.call.Goals as goal

pub returns-in_err-write-in-Begun-clause-next : goal.returns-in_err-write-in-Begun-clause-next
returns-in_err-write-in-Begun-clause-next g c =
    let s = store_state g.D.Disk.state c.args.store.now in
    let e = c.in_err-write-in-Begun.ensures in
    let refused = err_from_is_err_and c.from_residual.result c.from_residual.ensures.1 in
    subst (λ u. IsNextCall g.D.Disk c.args.store.now u c.from_residual.result c.write.new.store) (sym c.in-Begun.is)
    (call_fails g.D.Disk c.args.store.now c.write.new.store (Begun c.in-Begun.phase c.in-Begun.along) c.from_residual.result refused.0 refused.1 refl e.kept.table e.kept.seq
    (λ honest on image permitted. left_without s (flight Stage.Stopped (begun_sequel c.in-Begun.phase).decisions ∷ []) image refl (e.images honest on image permitted)))

pub returns-in_ok-write-in-Begun-clause-next : goal.returns-in_ok-write-in-Begun-clause-next
returns-in_ok-write-in-Begun-clause-next g c =
    let s = store_state g.D.Disk.state c.args.store.now in
    let s' = store_state g.D.Disk.state c.write.new.store in
    let e = c.in_ok-write-in-Begun.ensures in
    let next = Written c.in_ok-write-in-Begun.field-0 c.in-Begun.along in
    subst (λ u. IsNextCall g.D.Disk c.args.store.now u (Ok (calls.UnderWay next)) c.write.new.store) (sym c.in-Begun.is)
    (record {
      flights = ap (λ sequel. flight Stage.Written sequel.decisions ∷ []) e.sequel;
      along = refl;
      calls = refl;
      way = e.under_way;
      tip = λ tip is. is ∙ sym e.tip;
      durable = keeps_all s s' (flight Stage.Written (begun_sequel c.in-Begun.phase).decisions ∷ []) refl e.kept.table e.kept.seq;
      images = λ honest on image permitted. left_without s (flight Stage.Written (begun_sequel c.in-Begun.phase).decisions ∷ []) image refl (e.images honest on image permitted);
      on_disk = e.next;
      generation = λ honest on. e.kept.generation;
    })

pub returns-in_err-sync-in-Written-clause-next : goal.returns-in_err-sync-in-Written-clause-next
returns-in_err-sync-in-Written-clause-next g c =
    let s = store_state g.D.Disk.state c.args.store.now in
    let e = c.in_err-sync-in-Written.ensures in
    let refused = err_from_is_err_and c.from_residual-in_err-sync-in-Written.result c.from_residual-in_err-sync-in-Written.ensures.1 in
    subst (λ u. IsNextCall g.D.Disk c.args.store.now u c.from_residual-in_err-sync-in-Written.result c.sync.new.store) (sym c.in-Written.is)
    (call_fails g.D.Disk c.args.store.now c.sync.new.store (Written c.in-Written.phase c.in-Written.along) c.from_residual-in_err-sync-in-Written.result refused.0 refused.1 refl e.kept.table e.kept.seq
    (λ honest on image permitted. left_without s (flight Stage.Stopped (written_sequel c.in-Written.phase).decisions ∷ []) image refl (e.images honest on image permitted)))

pub returns-in_ok-sync-in-Written-clause-next : goal.returns-in_ok-sync-in-Written-clause-next
returns-in_ok-sync-in-Written-clause-next g c =
    let s = store_state g.D.Disk.state c.args.store.now in
    let s' = store_state g.D.Disk.state c.sync.new.store in
    let e = c.in_ok-sync-in-Written.ensures in
    let next = BodySynced c.in_ok-sync-in-Written.field-0 c.in-Written.along in
    subst (λ u. IsNextCall g.D.Disk c.args.store.now u (Ok (calls.UnderWay next)) c.sync.new.store) (sym c.in-Written.is)
    (record {
      flights = ap (λ sequel. flight Stage.BodySynced sequel.decisions ∷ []) e.sequel;
      along = refl;
      calls = refl;
      way = e.under_way;
      tip = λ tip is. is ∙ sym e.tip;
      durable = keeps_all s s' (flight Stage.BodySynced (written_sequel c.in-Written.phase).decisions ∷ []) refl e.kept.table e.kept.seq;
      images = λ honest on image permitted. left_without s (flight Stage.BodySynced (written_sequel c.in-Written.phase).decisions ∷ []) image refl (e.images honest on image permitted);
      on_disk = e.next;
      generation = λ honest on. e.kept.generation;
    })

pub returns-in_err-open_gate-in-BodySynced-clause-next : goal.returns-in_err-open_gate-in-BodySynced-clause-next
returns-in_err-open_gate-in-BodySynced-clause-next g c =
    let s = store_state g.D.Disk.state c.args.store.now in
    let e = c.in_err-open_gate-in-BodySynced.ensures in
    let way = subst (IsOnItsWay s) c.in-BodySynced.is c.requires in
    let refused = err_from_is_err_and c.from_residual-in_err-open_gate-in-BodySynced.result c.from_residual-in_err-open_gate-in-BodySynced.ensures.1 in
    subst (λ u. IsNextCall g.D.Disk c.args.store.now u c.from_residual-in_err-open_gate-in-BodySynced.result c.open_gate.new.store) (sym c.in-BodySynced.is)
    (call_fails g.D.Disk c.args.store.now c.open_gate.new.store (BodySynced c.in-BodySynced.phase c.in-BodySynced.along) c.from_residual-in_err-open_gate-in-BodySynced.result refused.0 refused.1 refl e.kept.table e.kept.seq
    (λ honest on image permitted. left_either s (flight Stage.Unsure (body_synced_sequel c.in-BodySynced.phase).decisions ∷ []) (body_synced_sequel c.in-BodySynced.phase) (body_synced_size c.in-BodySynced.phase) image way (λ kept left. left) (e.images honest on image permitted)))

pub returns-in_ok-open_gate-in-BodySynced-clause-next : goal.returns-in_ok-open_gate-in-BodySynced-clause-next
returns-in_ok-open_gate-in-BodySynced-clause-next g c =
    let s = store_state g.D.Disk.state c.args.store.now in
    let s' = store_state g.D.Disk.state c.open_gate.new.store in
    let e = c.in_ok-open_gate-in-BodySynced.ensures in
    let way = subst (IsOnItsWay s) c.in-BodySynced.is c.requires in
    let next = GateWritten c.in_ok-open_gate-in-BodySynced.field-0 c.in-BodySynced.along in
    subst (λ u. IsNextCall g.D.Disk c.args.store.now u (Ok (calls.UnderWay next)) c.open_gate.new.store) (sym c.in-BodySynced.is)
    (record {
      flights = ap (λ sequel. flight Stage.GateWritten sequel.decisions ∷ []) e.sequel;
      along = refl;
      calls = refl;
      way = e.under_way;
      tip = λ tip is. is ∙ sym e.tip;
      durable = keeps_all s s' (flight Stage.GateWritten (body_synced_sequel c.in-BodySynced.phase).decisions ∷ []) refl e.kept.table e.kept.seq;
      images = λ honest on image permitted. left_either s (flight Stage.GateWritten (body_synced_sequel c.in-BodySynced.phase).decisions ∷ []) (body_synced_sequel c.in-BodySynced.phase) (body_synced_size c.in-BodySynced.phase) image way (λ kept left. left) (e.images honest on image permitted);
      on_disk = e.next;
      generation = λ honest on. e.kept.generation;
    })

pub returns-in_err-sync-in-GateWritten-clause-next : goal.returns-in_err-sync-in-GateWritten-clause-next
returns-in_err-sync-in-GateWritten-clause-next g c =
    let s = store_state g.D.Disk.state c.args.store.now in
    let e = c.in_err-sync-in-GateWritten.ensures in
    let way = subst (IsOnItsWay s) c.in-GateWritten.is c.requires in
    let refused = err_from_is_err_and c.from_residual-in_err-sync-in-GateWritten.result c.from_residual-in_err-sync-in-GateWritten.ensures.1 in
    subst (λ u. IsNextCall g.D.Disk c.args.store.now u c.from_residual-in_err-sync-in-GateWritten.result c.sync-in-GateWritten.new.store) (sym c.in-GateWritten.is)
    (call_fails g.D.Disk c.args.store.now c.sync-in-GateWritten.new.store (GateWritten c.in-GateWritten.phase c.in-GateWritten.along) c.from_residual-in_err-sync-in-GateWritten.result refused.0 refused.1 refl e.table e.seq
    (λ honest on image permitted. left_either s (flight Stage.Unsure (gate_written_sequel c.in-GateWritten.phase).decisions ∷ []) (gate_written_sequel c.in-GateWritten.phase) (gate_written_size c.in-GateWritten.phase) image way (λ kept left. left) (e.images honest on image permitted)))

pub returns-in_ok-sync-in-GateWritten-clause-next : goal.returns-in_ok-sync-in-GateWritten-clause-next
returns-in_ok-sync-in-GateWritten-clause-next g c =
    let s = store_state g.D.Disk.state c.args.store.now in
    let e = c.in_ok-sync-in-GateWritten.ensures in
    let way = subst (IsOnItsWay s) c.in-GateWritten.is c.requires in
    let durable = c.in_ok-sync-in-GateWritten.field-0 in
    subst (λ u. IsNextCall g.D.Disk c.args.store.now u (Ok (calls.Durable durable c.in-GateWritten.along None)) c.sync-in-GateWritten.new.store) (sym c.in-GateWritten.is)
    (record {
      flights = ap (λ ds. flight Stage.Durable ds ∷ []) e.batch;
      along = refl;
      calls = refl;
      way = tt;
      tip = λ tip is. is ∙ sym e.tip;
      durable = record { table = e.table; seq = e.seq ∙ way.seq };
      images = λ honest on image permitted. left_with s (flight Stage.Durable (gate_written_sequel c.in-GateWritten.phase).decisions ∷ []) (gate_written_sequel c.in-GateWritten.phase) (gate_written_size c.in-GateWritten.phase) image way refl (e.durable honest on image permitted);
      on_disk = e.settled;
      generation = λ honest on. e.generation;
    })

pub returns-in_err-next-in-Checkpoint-clause-next : goal.returns-in_err-next-in-Checkpoint-clause-next
returns-in_err-next-in-Checkpoint-clause-next g c =
    let s = store_state g.D.Disk.state c.args.store.now in
    let e = c.call.ensures.next in
    let refused = err_from_is_err_and c.from_residual-in_err-next-in-Checkpoint.result c.from_residual-in_err-next-in-Checkpoint.ensures.1 in
    subst (λ u. IsNextCall g.D.Disk c.args.store.now u c.from_residual-in_err-next-in-Checkpoint.result c.call.new.store) (sym c.in-Checkpoint.is)
    (call_fails g.D.Disk c.args.store.now c.call.new.store (Checkpoint c.in-Checkpoint.phase) c.from_residual-in_err-next-in-Checkpoint.result refused.0 refused.1 refl e.table e.seq
    (λ honest on image permitted. left_without s [] image refl (e.images honest on image permitted)))

pub returns-in-Some-clause-next : goal.returns-in-Some-clause-next
returns-in-Some-clause-next g c =
    let s = store_state g.D.Disk.state c.args.store.now in
    let s' = store_state g.D.Disk.state c.call.new.store in
    let e = subst (λ o. IsPublishingCall g.D.Disk c.args.store.now c.in-Checkpoint.phase (Ok o) c.call.new.store) c.in-Some.is c.in_ok-next-in-Checkpoint.ensures.next in
    subst (λ u. IsNextCall g.D.Disk c.args.store.now u (Ok (calls.UnderWay (Checkpoint c.in-Some.next))) c.call.new.store) (sym c.in-Checkpoint.is)
    (record {
      flights = refl;
      along = refl;
      calls = e.calls;
      way = e.fits;
      tip = λ tip none. absurd none;
      durable = keeps_all s s' [] refl e.table e.seq;
      images = λ honest on image permitted. left_without s [] image refl (e.images honest on image permitted);
      on_disk = e.on_disk;
      generation = e.generation;
    })

pub returns-in-None-clause-next : goal.returns-in-None-clause-next
returns-in-None-clause-next g c =
    let s = store_state g.D.Disk.state c.args.store.now in
    let s' = store_state g.D.Disk.state c.call.new.store in
    let e = subst (λ o. IsPublishingCall g.D.Disk c.args.store.now c.in-Checkpoint.phase (Ok o) c.call.new.store) c.in-None.is c.in_ok-next-in-Checkpoint.ensures.next in
    subst (λ u. IsNextCall g.D.Disk c.args.store.now u (Ok calls.Published) c.call.new.store) (sym c.in-Checkpoint.is)
    (record {
      flights = refl;
      along = refl;
      calls = e.calls;
      way = e.fits;
      tip = λ tip none. absurd none;
      durable = keeps_all s s' [] refl e.table e.seq;
      images = λ honest on image permitted. left_without s [] image refl (e.images honest on image permitted);
      on_disk = e.on_disk;
      generation = e.generation;
    })

pub returns-in_err-paired-in-Following-clause-next : goal.returns-in_err-paired-in-Following-clause-next
returns-in_err-paired-in-Following-clause-next g c =
    let s = store_state g.D.Disk.state c.args.store.now in
    let e = c.in_err-paired-in-Following.ensures in
    let way = subst (IsOnItsWay s) c.in-Following.is c.requires in
    let refused = err_from_is_err_and c.from_residual-in_err-paired-in-Following.result c.from_residual-in_err-paired-in-Following.ensures.1 in
    subst (λ u. IsNextCall g.D.Disk c.args.store.now u c.from_residual-in_err-paired-in-Following.result c.write_next.new.store) (sym c.in-Following.is)
    (call_fails g.D.Disk c.args.store.now c.write_next.new.store (Following c.in-Following.opened c.in-Following.along c.in-Following.following c.in-Following.behind) c.from_residual-in_err-paired-in-Following.result refused.0 refused.1 refl e.kept.table e.kept.seq
    (λ honest on image permitted. left_either s (all_failed (flights_in (Following c.in-Following.opened c.in-Following.along c.in-Following.following c.in-Following.behind))) (gate_written_sequel c.in-Following.opened) (gate_written_size c.in-Following.opened) image way.0 (λ kept left. left) (e.images honest on.0 image permitted)))

pub returns-in_ok-paired-in-Following-clause-next : goal.returns-in_ok-paired-in-Following-clause-next
returns-in_ok-paired-in-Following-clause-next g c =
    let s = store_state g.D.Disk.state c.args.store.now in
    let s' = store_state g.D.Disk.state c.write_next.new.store in
    let e = c.in_ok-paired-in-Following.ensures in
    let way = subst (IsOnItsWay s) c.in-Following.is c.requires in
    let old = Following c.in-Following.opened c.in-Following.along c.in-Following.following c.in-Following.behind in
    let next = Paired c.in_ok-paired-in-Following.paired c.in-Following.along c.in-Following.behind in
    subst (λ u. IsNextCall g.D.Disk c.args.store.now u (Ok (calls.UnderWay next)) c.write_next.new.store) (sym c.in-Following.is)
    (record {
      flights = ap (λ sequel. flight Stage.GateWritten sequel.decisions ∷ flight Stage.Written (following_sequel c.in_ok-paired-in-Following.paired).decisions ∷ []) e.sequel
          ∙ ap (λ sequel. flight Stage.GateWritten (gate_written_sequel c.in-Following.opened).decisions ∷ flight Stage.Written sequel.decisions ∷ []) e.following;
      along = refl;
      calls = refl;
      way = e.under_way;
      tip = λ tip is. is ∙ sym e.tip;
      durable = keeps_all s s' (all_succeeded (flights_in old)) refl e.kept.table e.kept.seq;
      images = λ honest on image permitted. left_either s (all_succeeded (flights_in old)) (gate_written_sequel c.in-Following.opened) (gate_written_size c.in-Following.opened) image way.0 (λ kept left. left)
          (e.images honest on.0 image permitted);
      on_disk = λ honest on. e.next honest on.0 on.1;
      generation = λ honest on. e.kept.generation;
    })

pub returns-in_err-durable-in-Paired-clause-next : goal.returns-in_err-durable-in-Paired-clause-next
returns-in_err-durable-in-Paired-clause-next g c =
    let s = store_state g.D.Disk.state c.args.store.now in
    let e = c.in_err-durable-in-Paired.ensures in
    let way = subst (IsOnItsWay s) c.in-Paired.is c.requires in
    let refused = err_from_is_err_and c.from_residual-in_err-durable-in-Paired.result c.from_residual-in_err-durable-in-Paired.ensures.1 in
    subst (λ u. IsNextCall g.D.Disk c.args.store.now u c.from_residual-in_err-durable-in-Paired.result c.sync-in-Paired.new.store) (sym c.in-Paired.is)
    (call_fails g.D.Disk c.args.store.now c.sync-in-Paired.new.store (Paired c.in-Paired.phase c.in-Paired.along c.in-Paired.behind) c.from_residual-in_err-durable-in-Paired.result refused.0 refused.1 refl e.table e.seq
    (λ honest on image permitted. left_either s (all_failed (flights_in (Paired c.in-Paired.phase c.in-Paired.along c.in-Paired.behind))) (paired_sequel c.in-Paired.phase) (paired_size c.in-Paired.phase) image way.first (λ kept left. left) (e.images honest on image permitted)))

pub returns-in_ok-durable-in-Paired-clause-next : goal.returns-in_ok-durable-in-Paired-clause-next
returns-in_ok-durable-in-Paired-clause-next g c =
    let s = store_state g.D.Disk.state c.args.store.now in
    let e = c.in_ok-durable-in-Paired.ensures in
    let way = subst (IsOnItsWay s) c.in-Paired.is c.requires in
    let durable = c.in_ok-durable-in-Paired.durable in
    let synced = c.in_ok-durable-in-Paired.synced in
    let old = Paired c.in-Paired.phase c.in-Paired.along c.in-Paired.behind in
    subst (λ u. IsNextCall g.D.Disk c.args.store.now u (Ok (calls.Durable durable c.in-Paired.along (Some (BodySynced synced c.in-Paired.behind)))) c.sync-in-Paired.new.store) (sym c.in-Paired.is)
    (record {
      flights = ap (λ ds. flight Stage.Durable ds ∷ flight Stage.BodySynced (body_synced_sequel synced).decisions ∷ []) e.batch
          ∙ ap (λ sequel. flight Stage.Durable (paired_sequel c.in-Paired.phase).decisions ∷ flight Stage.BodySynced sequel.decisions ∷ []) e.following;
      along = refl;
      calls = refl;
      way = e.under_way;
      tip = λ tip is. is ∙ sym e.tip;
      durable = record { table = e.table; seq = e.seq ∙ way.first.seq };
      images = λ honest on image permitted. left_with s (all_succeeded (flights_in old)) (paired_sequel c.in-Paired.phase) (paired_size c.in-Paired.phase) image way.first refl
          (e.durable honest on image permitted);
      on_disk = e.next;
      generation = λ honest on. e.generation;
    })
