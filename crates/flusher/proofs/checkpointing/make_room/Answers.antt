use Rattle.std.proofs.Common.{◌≡◌, ◌⊎◌, ℕ, Result, MatchResult, Ok, Err, false, inl, inr, refl, subst, sym, true}
use Rattle.disk.specs.Outlook.{Outlook}
use Rattle.lw_types.specs.declared.refusal.Refusal.{Refusal}
use Rattle.store.specs.declared.checkpointing.Checkpoint.{Checkpoint}
use Rattle.store.specs.State.{IsRoomy, disk_of, store_state}
use Rattle.flusher.specs.Calls.{HasFailedWithin, HaveSucceeded, IsUntouched, LastFailed, NoneFailed}
use Rattle.flusher.proofs.Calling.{no_calls, not_begun, once_begun}
use Rattle.flusher.proofs.Making.{all_calls_of_room, no_calls_of_room}
use Rattle.flusher.proofs.Holding.{on_refused}
use Rattle.flusher.proofs.checkpointing.make_room.Goals as goal

as_made : {T : Type 0} (r : Result T Refusal) (m k : ℕ) (o n : Outlook) → m ≡ k → MatchResult r (λ _. HaveSucceeded m o n) (λ _. HasFailedWithin 0 m o n)
    → MatchResult r (λ _. HaveSucceeded k o n) (λ _. (n ≡ o) ⊎ HasFailedWithin 0 k o n)
as_made (Ok x) m k o n same is = subst (λ l. HaveSucceeded l o n) same is
as_made (Err e) m k o n same is = inr (subst (λ l. HasFailedWithin 0 l o n) same is)

pub returns-in_err-checkpoint-clause-images : goal.returns-in_err-checkpoint-clause-images
returns-in_err-checkpoint-clause-images g c honest settled =
    on_refused c.from_residual.result c.in_err-checkpoint.field-0.0 _ _ c.from_residual.ensures.1
    (c.a_settled_store_is_on_its_disk.ensures (store_state g.D.Disk.state c.args.store.now) settled)

pub returns-in_err-checkpoint-clause-calls : goal.returns-in_err-checkpoint-clause-calls
returns-in_err-checkpoint-clause-calls g c =
    let s = store_state g.D.Disk.state c.args.store.now in
    let e = c.in_err-checkpoint.field-0.0 in
    let failure = LastFailed g.D.Disk.failures g.D.Disk.outlook c.args.store.now c.args.store.now in
    on_refused c.from_residual.result e _ _ c.from_residual.ensures.1 (
      inl (refl, refl),
      inr (
        λ (roomy : IsRoomy s). let no : false ≡ true = c.if-roomy.ensures.1 roomy in cc,
        not_begun {T = Checkpoint} s.failed s.log.generation failure (Err e) e refl c.in_err-checkpoint.ensures.answer,
      ),
    )

pub returns-clause-calls : goal.returns-clause-calls
returns-clause-calls g c =
    let s = store_state g.D.Disk.state c.args.store.now in
    let none = NoneFailed g.D.Disk.failures g.D.Disk.outlook c.args.store.now c.publish.new.store in
    let failure = LastFailed g.D.Disk.failures g.D.Disk.outlook c.args.store.now c.publish.new.store in
    let untouched = IsUntouched g.D.Disk.state c.args.store.now c.publish.new.store in
    once_begun s.failed s.log.generation (¬ (IsRoomy s)) none untouched failure c.in_ok-checkpoint.checkpoint c.publish.result
    (λ (roomy : IsRoomy s). let no : false ≡ true = c.if-roomy.ensures.1 roomy in cc)
    c.in_ok-checkpoint.ensures.answer c.publish.ensures.calls

pub returns-then-roomy-clause-ready : goal.returns-then-roomy-clause-ready
returns-then-roomy-clause-ready g c = inl (c.roomy.ensures.0 (cc))

pub returns-then-roomy-clause-roomy : goal.returns-then-roomy-clause-roomy
returns-then-roomy-clause-roomy g c = c.roomy.ensures.0 (cc)

pub returns-then-roomy-clause-made : goal.returns-then-roomy-clause-made
returns-then-roomy-clause-made g c =
    let o = g.D.Disk.outlook (disk_of c.args.store.now) in
    subst (λ n. HaveSucceeded n o o) (sym (no_calls_of_room (store_state g.D.Disk.state c.args.store.now) (c.roomy.ensures.0 (cc)))) (no_calls o)

pub returns-in_err-checkpoint-clause-made : goal.returns-in_err-checkpoint-clause-made
returns-in_err-checkpoint-clause-made g c =
    on_refused c.from_residual.result c.in_err-checkpoint.field-0.0 _ _ c.from_residual.ensures.1 (inl refl)

pub returns-clause-made : goal.returns-clause-made
returns-clause-made g c =
    let s = store_state g.D.Disk.state c.args.store.now in
    let o = g.D.Disk.outlook (disk_of c.args.store.now) in
    let n = g.D.Disk.outlook (disk_of c.publish.new.store) in
    let all = all_calls_of_room s (λ (roomy : IsRoomy s). let no : false ≡ true = c.if-roomy.ensures.1 roomy in cc) in
    as_made c.publish.result _ _ o n (sym all) c.publish.ensures.made
