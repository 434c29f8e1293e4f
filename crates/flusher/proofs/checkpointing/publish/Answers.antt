use Rattle.std.proofs.Common.{◌≡◌, ◌≤◌, ◌+◌, ◌-◌, ◌∙◌, ℕ, Bool, true, false, Ok, refl, subst, arith}
use Rattle.std.specs.Prelude.{if◌then◌else◌}
use Rattle.disk.specs.Outlook.{IsForeseen, Outlook}
use Rattle.store.specs.Publishing.{IsPublishingCall, calls_left}
use Rattle.store.specs.State.{StoreState, disk_of, store_state}
use Rattle.store.specs.declared.publishing.Publishing.{Publishing}
use Rattle.store.specs.declared.publishing.Publishing.TheVariants.{Begun, Retiring, Written, Synced, Opened}
use Rattle.flusher.specs.Calls.{HaveSucceeded}
use Rattle.flusher.proofs.Calling.{no_calls, none_then, none_yet, one_call, one_more, then_fails}
use Rattle.flusher.proofs.Holding.{held_along, on_refused}
use Rattle.flusher.proofs.checkpointing.publish.Goals as goal

-- at least one is left
some_left : (s : StoreState) (publishing : Publishing) → 1 ≤ calls_left s publishing
some_left s (Begun phase) = by s.log.other_open
  where
    by : (b : Bool) → 1 ≤ (if b then 6 else 4)
    by true = omega arith
    by false = omega arith
some_left s (Retiring phase) = omega arith
some_left s (Written phase) = omega arith
some_left s (Synced phase) = omega arith
some_left s (Opened phase) = omega arith

one_call_more : (made : ℕ) (a b c : Outlook) (s : StoreState) (publishing : Publishing) (left all : ℕ) → HaveSucceeded made a b → IsForeseen b true c
    → made + calls_left s publishing ≡ all → left ≡ calls_left s publishing - 1 → (n : ℕ) × (HaveSucceeded n a c × (n + left ≡ all))
one_call_more made a b c s publishing left all were is sum less =
    let some = some_left s publishing in
    (made + 1, (one_more made a b c were is, omega (arith, sum, less, some)))

pub calls-init : goal.calls-init
calls-init g c = record {
  fits = c.requires;
  calls = none_yet g.D.Disk.failures g.D.Disk.outlook c.args.store.now;
  made = (0, (no_calls (g.D.Disk.outlook (disk_of c.args.store.now)), omega arith));
  table = refl;
  seq = refl;
  on_disk = λ honest on. on;
  generation = λ honest on. refl;
}

pub returns-in_err-next-clause-images : goal.returns-in_err-next-clause-images
returns-in_err-next-clause-images g c honest on =
    let s = store_state g.D.Disk.state c.args.store.now in
    let here = store_state g.D.Disk.state c.calls.store in
    let so_far = c.calls.invariant in
    on_refused c.from_residual.result c.in_err-next.field-0.0 _ _ c.from_residual.ensures.1
    (λ image p. held_along s here image so_far.table so_far.seq (c.in_err-next.ensures.next.images honest (so_far.on_disk honest on) image p))

pub calls-preserved : goal.calls-preserved
calls-preserved g c =
    let so_far = c.calls.invariant in
    let e = subst (λ o. IsPublishingCall g.D.Disk c.calls.store c.calls.publishing (Ok o) c.call.new.store) c.in-Some.is c.in_ok-next.ensures.next in
    record {
      fits = e.fits;
      calls =
          none_then g.D.Disk.failures g.D.Disk.outlook c.args.store.now c.calls.store c.call.new.store so_far.calls
          (one_call g.D.Disk.failures g.D.Disk.outlook c.calls.store c.call.new.store (Ok c.in_ok-next.field-0) c.in_ok-next.ensures.call);
      made = one_call_more so_far.made.0 (g.D.Disk.outlook (disk_of c.args.store.now)) (g.D.Disk.outlook (disk_of c.calls.store)) (g.D.Disk.outlook (disk_of c.call.new.store))
          (store_state g.D.Disk.state c.calls.store) c.calls.publishing _ _ so_far.made.1.0 c.in_ok-next.ensures.call.foreseen so_far.made.1.1 e.calls;
      table = e.table ∙ so_far.table;
      seq = e.seq ∙ so_far.seq;
      on_disk = λ honest on. e.on_disk honest (so_far.on_disk honest on);
      generation = λ honest on. e.generation honest (so_far.on_disk honest on) ∙ so_far.generation honest on;
    }

pub returns-in_err-next-clause-made : goal.returns-in_err-next-clause-made
returns-in_err-next-clause-made g c =
    let so_far = c.calls.invariant in
    let sum = so_far.made.1.1 in
    let some = some_left (store_state g.D.Disk.state c.calls.store) c.calls.publishing in
    on_refused c.from_residual.result c.in_err-next.field-0.0 _ _ c.from_residual.ensures.1 (
      so_far.made.0,
      (
        omega arith,
        (
          omega (arith, sum, some),
          then_fails so_far.made.0 (g.D.Disk.outlook (disk_of c.args.store.now)) (g.D.Disk.outlook (disk_of c.calls.store)) (g.D.Disk.outlook (disk_of c.call.new.store))
              so_far.made.1.0 c.in_err-next.ensures.call.foreseen,
        ),
      ),
    )

pub returns-in-None-clause-made : goal.returns-in-None-clause-made
returns-in-None-clause-made g c =
    let so_far = c.calls.invariant in
    let e = subst (λ o. IsPublishingCall g.D.Disk c.calls.store c.calls.publishing (Ok o) c.call.new.store) c.in-None.is c.in_ok-next.ensures.next in
    let more =
    one_call_more so_far.made.0 (g.D.Disk.outlook (disk_of c.args.store.now)) (g.D.Disk.outlook (disk_of c.calls.store)) (g.D.Disk.outlook (disk_of c.call.new.store))
    (store_state g.D.Disk.state c.calls.store) c.calls.publishing 0 _ so_far.made.1.0 c.in_ok-next.ensures.call.foreseen so_far.made.1.1 e.calls in
    subst (λ n. HaveSucceeded n (g.D.Disk.outlook (disk_of c.args.store.now)) (g.D.Disk.outlook (disk_of c.call.new.store)))
    (let all : more.0 ≡ calls_left (store_state g.D.Disk.state c.args.store.now) (Begun c.args.checkpoint) = (let sum = more.1.1 in omega (arith, sum)) in all) more.1.0
