use denote.Param.Members.{Called}
use Rattle.std.proofs.Common.{◌≡◌, ◌≢◌, ◌+◌, ◌-◌, ◌∙◌, ℕ, List, [], ◌∷◌, Vec, Global, false, Ok, Err, inl, inr, ap, subst, sym, refl, arith}
use Rattle.std.proofs.lemmas.Result.{err_from_is_err_and}
use Rattle.devices.specs.declared.effect.Effect.{Effect}
use Rattle.lw_types.specs.declared.refusal.Refusal.TheVariants.{Failed}
use Rattle.store.specs.Phases.{begun_sequel}
use Rattle.disk.specs.Outlook.{Outlook}
use Rattle.store.specs.State.{IsRoomy, IsSettled, StoreState, disk_of, store_state}
use Rattle.store.specs.declared.phases.Begun.{Begun}
use Rattle.flusher.specs.Calls.{HaveSucceeded, LastFailed, calls_of_room}
use Rattle.flusher.specs.Chain.HasBroken.{FeedRefused, WasUncommitted, WasUnready}
use Rattle.flusher.specs.Chain.{GivesAll, IsChain, IsChainOfSome, store_behind}
use Rattle.flusher.specs.Lived.{HaveLed}
use Rattle.flusher.specs.Released.{effects_of_all}
use Rattle.flusher.specs.declared.released.Released.{Released}
use Rattle.flusher.proofs.Calling.{none_then, none_untouched, none_yet, not_written, settled_still, then_refused}
use Rattle.flusher.proofs.Holding.{held_along}
use Rattle.flusher.proofs.Living.{by_failed, fails, rests}
use Rattle.flusher.proofs.Starts.{chain_along, chain_leads, no_batch, not_failed, on_ok, stays, stays_first}
use Rattle.flusher.proofs.Ends.{why_not}
use Rattle.flusher.proofs.chaining.chain.Goals as goal

-- without a batch no call is made
for_none : (room : ℕ) (o n : Outlook) → HaveSucceeded room o n → HaveSucceeded (room + 0) o n
for_none room o n is = subst (λ k. HaveSucceeded k o n) (let same : room ≡ room + 0 = omega arith in same) is

pub returns-in_err-room-clause-chain : goal.returns-in_err-room-clause-chain
returns-in_err-room-clause-chain g c =
    let refused = err_from_is_err_and c.from_residual.result c.from_residual.ensures.1 in
    let store = c.args.store.now in
    let feed = c.args.feed.now in
    let effects : Vec Released Global → List Effect = λ released. effects_of_all released.items in
    let step : g.row.C.Denot → Vec Released Global → g.row.C.Denot → Type 0 = λ before released after. Called g.C.FnMut before (released, tt) tt after in
    subst (λ r. IsChain g.D.Disk g.F.Feed.gives effects step c.args.most store store feed feed c.args.out.now c.args.out.now r) (sym (refused.1 ∙ ap Err refused.2))
    (no_batch g.D.Disk g.F.Feed.gives effects step c.args.most store store feed feed c.args.out.now [] (Err c.in_err-room.field-0.0) (omega arith) refl refl
    (WasUnready refl refl refl (inl (refl, refl), inl c.in_err-room.ensures)) (inl (none_yet g.D.Disk.failures g.D.Disk.outlook store)) (inr (inl (refl, inl refl)))
    (λ honest settled none. settled)
    (λ honest settled. c.a_settled_store_is_on_its_disk.ensures (store_state g.D.Disk.state store) settled))

pub returns-in_err-make_room-clause-chain : goal.returns-in_err-make_room-clause-chain
returns-in_err-make_room-clause-chain g c =
    let r = c.from_residual-in_err-make_room in
    let refused = err_from_is_err_and r.result r.ensures.1 in
    let store = c.args.store.now in
    let new = c.make_room.new.store in
    let feed = c.args.feed.now in
    let e = c.in_err-make_room.field-0.0 in
    let is = c.in_err-make_room.ensures in
    let s = store_state g.D.Disk.state store in
    let s' = store_state g.D.Disk.state new in
    let effects : Vec Released Global → List Effect = λ released. effects_of_all released.items in
    let step : g.row.C.Denot → Vec Released Global → g.row.C.Denot → Type 0 = λ before released after. Called g.C.FnMut before (released, tt) tt after in
    subst (λ r. IsChain g.D.Disk g.F.Feed.gives effects step c.args.most store new feed feed c.args.out.now c.args.out.now r) (sym (refused.1 ∙ ap Err refused.2))
    (no_batch g.D.Disk g.F.Feed.gives effects step c.args.most store new feed feed c.args.out.now [] (Err e) (omega arith) is.table is.seq
    (WasUnready refl refl refl is.calls)
    (then_refused g.D.Disk.state g.D.Disk.failures g.D.Disk.outlook store store new e (none_yet g.D.Disk.failures g.D.Disk.outlook store) is.refused) (inr (inl (refl, is.made)))
    (λ honest settled none.
    settled_still g.D.Disk.state g.D.Disk.failures g.D.Disk.outlook store store new e (none_yet g.D.Disk.failures g.D.Disk.outlook store) is.refused settled none)
    (λ honest settled image p. held_along s' s image (sym is.table) (sym is.seq) (is.images honest settled image p)))

pub returns-in_err-make_room-clause-lives : goal.returns-in_err-make_room-clause-lives
returns-in_err-make_room-clause-lives g c honest =
    let s = store_state g.D.Disk.state c.args.store.now in
    let new = store_state g.D.Disk.state c.make_room.new.store in
    let done = c.in_err-make_room.ensures in
    stays (λ (released : Vec Released Global). effects_of_all released.items) (λ before released after. Called g.C.FnMut before (released, tt) tt after) s new c.args.out.now
    (λ t number lives led.
    by_failed lives t number s led (λ is. subst (HaveLed lives t number) (sym (done.closed is).0) led)
    (λ nothing settled. elim done.refused [
      | inl same ↦ subst (HaveLed lives t number) (sym same.0) led
      | inr (is, last) ↦ fails lives t number s led new done.table done.seq last.failed (done.images honest settled)
    ]))

pub returns-in_err-batch-clause-chain : goal.returns-in_err-batch-clause-chain
returns-in_err-batch-clause-chain g c =
    let r = c.from_residual-in_err-batch in
    let refused = err_from_is_err_and r.result r.ensures.1 in
    let store = c.args.store.now in
    let new = c.make_room.new.store in
    let ready = c.in_ok-make_room.ensures in
    let effects : Vec Released Global → List Effect = λ released. effects_of_all released.items in
    let step : g.row.C.Denot → Vec Released Global → g.row.C.Denot → Type 0 = λ before released after. Called g.C.FnMut before (released, tt) tt after in
    subst (λ r. IsChain g.D.Disk g.F.Feed.gives effects step c.args.most store new c.args.feed.now c.take.new.feed c.args.out.now c.args.out.now r) (sym (refused.1 ∙ ap Err refused.2))
    (no_batch g.D.Disk g.F.Feed.gives effects step c.args.most store new c.args.feed.now c.take.new.feed c.args.out.now [] (Err c.in_err-batch.field-0.0) (omega arith)
    ready.table ready.seq (FeedRefused ready.ready refl c.in_err-batch.ensures) (inl ready.calls) (inl (for_none _ _ _ ready.made)) (λ honest settled none. ready.images honest settled)
    (λ honest settled. c.a_settled_store_is_on_its_disk.ensures (store_state g.D.Disk.state new) (ready.images honest settled)))

pub returns-in_err-batch-clause-lives : goal.returns-in_err-batch-clause-lives
returns-in_err-batch-clause-lives g c honest =
    let s = store_state g.D.Disk.state c.args.store.now in
    let mid = store_state g.D.Disk.state c.make_room.new.store in
    let ready = c.in_ok-make_room.ensures in
    stays (λ (released : Vec Released Global). effects_of_all released.items) (λ before released after. Called g.C.FnMut before (released, tt) tt after) s mid c.args.out.now
    (λ t number lives led.
    by_failed lives t number s led (λ is. subst (HaveLed lives t number) (sym (ready.closed is).0) led)
    (λ nothing settled. rests lives t number s led c.a_settled_store_is_on_its_disk.ensures mid ready.table ready.seq nothing (ready.images honest settled)))

pub returns-then-is_empty-clause-chain : goal.returns-then-is_empty-clause-chain
returns-then-is_empty-clause-chain g c =
    let store = c.args.store.now in
    let new = c.make_room.new.store in
    let ready = c.in_ok-make_room.ensures in
    let empty : c.in_ok-batch.batch ≡ [] = c.is_empty.ensures.0 (cc) in
    let effects : Vec Released Global → List Effect = λ released. effects_of_all released.items in
    let step : g.row.C.Denot → Vec Released Global → g.row.C.Denot → Type 0 = λ before released after. Called g.C.FnMut before (released, tt) tt after in
    no_batch g.D.Disk g.F.Feed.gives effects step c.args.most store new c.args.feed.now c.take.new.feed c.args.out.now [] (Ok 0) (omega arith) ready.table ready.seq
    (refl, (refl, subst (λ b. g.F.Feed.gives c.args.feed.now 64 (Ok b) c.take.new.feed) empty c.in_ok-batch.ensures)) ready.calls (for_none _ _ _ ready.made)
    (λ honest settled none. ready.images honest settled)
    (λ honest settled. c.a_settled_store_is_on_its_disk.ensures (store_state g.D.Disk.state new) (ready.images honest settled))

pub returns-then-is_empty-clause-lives : goal.returns-then-is_empty-clause-lives
returns-then-is_empty-clause-lives g c honest =
    let s = store_state g.D.Disk.state c.args.store.now in
    let mid = store_state g.D.Disk.state c.make_room.new.store in
    let ready = c.in_ok-make_room.ensures in
    stays (λ (released : Vec Released Global). effects_of_all released.items) (λ before released after. Called g.C.FnMut before (released, tt) tt after) s mid c.args.out.now
    (λ t number lives led.
    by_failed lives t number s led (λ is. subst (HaveLed lives t number) (sym (ready.closed is).0) led)
    (λ nothing settled. rests lives t number s led c.a_settled_store_is_on_its_disk.ensures mid ready.table ready.seq nothing (ready.images honest settled)))

pub returns-in_err-begun-clause-chain : goal.returns-in_err-begun-clause-chain
returns-in_err-begun-clause-chain g c =
    let r = c.from_residual-in_err-begun in
    let refused = err_from_is_err_and r.result r.ensures.1 in
    let e = c.in_err-begun.field-0.0 in
    let store = c.args.store.now in
    let mid = c.make_room.new.store in
    let new = c.begin.new.self in
    let s = store_state g.D.Disk.state store in
    let m = store_state g.D.Disk.state mid in
    let ready = c.in_ok-make_room.ensures in
    let began = c.in_err-begun.ensures in
    let batch = c.in_ok-batch.batch in
    let failures = g.D.Disk.failures in
    let outlook = g.D.Disk.outlook in
    let failure = LastFailed failures outlook store new in
    let none = none_then failures outlook store mid new ready.calls (none_untouched g.D.Disk.state failures outlook mid new (began.same, began.disk)) in
    let some : batch ≢ [] = (λ is. let yes = c.is_empty.ensures.1 is in let no : ⊥ = cc in no) in
    let why =
    why_not m (store_behind s []) batch failure failure e ready.calls.failed ready.table (let is = ready.seq in omega (arith, is)) (λ x. x)
    (not_written {T = Begun} m.failed m.table m.seq batch failure (Err e) e refl began.memory began.answer) in
    let effects : Vec Released Global → List Effect = λ released. effects_of_all released.items in
    let step : g.row.C.Denot → Vec Released Global → g.row.C.Denot → Type 0 = λ before released after. Called g.C.FnMut before (released, tt) tt after in
    subst (λ r. IsChain g.D.Disk g.F.Feed.gives effects step c.args.most store new c.args.feed.now c.take.new.feed c.args.out.now c.args.out.now r) (sym (refused.1 ∙ ap Err refused.2))
    (no_batch g.D.Disk g.F.Feed.gives effects step c.args.most store new c.args.feed.now c.take.new.feed c.args.out.now batch (Err e) (omega arith)
    (ap (λ (x : StoreState). x.table) began.same ∙ ready.table) (ap (λ (x : StoreState). x.seq) began.same ∙ ready.seq)
    (WasUncommitted ready.ready c.take.new.feed (c.take.new.feed, (some, c.in_ok-batch.ensures), refl) why (inl refl))
    (inl none) (inl (subst (λ d. HaveSucceeded (calls_of_room s + 0) (outlook (disk_of store)) (outlook d)) (sym began.disk) (for_none _ _ _ ready.made)))
    (λ honest settled all. subst IsSettled (sym began.same) (ready.images honest settled))
    (λ honest settled. c.a_settled_store_is_on_its_disk.ensures (store_state g.D.Disk.state new) (subst IsSettled (sym began.same) (ready.images honest settled))))

pub returns-in_err-begun-clause-lives : goal.returns-in_err-begun-clause-lives
returns-in_err-begun-clause-lives g c honest =
    let s = store_state g.D.Disk.state c.args.store.now in
    let mid = store_state g.D.Disk.state c.make_room.new.store in
    let ready = c.in_ok-make_room.ensures in
    let same = c.in_err-begun.ensures.same in
    stays (λ (released : Vec Released Global). effects_of_all released.items) (λ before released after. Called g.C.FnMut before (released, tt) tt after) s
    (store_state g.D.Disk.state c.begin.new.self) c.args.out.now
    (λ t number lives led. subst (HaveLed lives t number) (sym same)
    (by_failed lives t number s led (λ is. subst (HaveLed lives t number) (sym (ready.closed is).0) led)
    (λ nothing settled. rests lives t number s led c.a_settled_store_is_on_its_disk.ensures mid ready.table ready.seq nothing (ready.images honest settled))))

pub returns-clause-chain : goal.returns-clause-chain
returns-clause-chain g c =
    let store = c.args.store.now in
    let room = c.make_room.new.store in
    let mid = c.begin.new.self in
    let ready = c.in_ok-make_room.ensures in
    let began = c.in_ok-begun.ensures in
    let failures = g.D.Disk.failures in
    let outlook = g.D.Disk.outlook in
    let none = none_then failures outlook store room mid ready.calls (none_untouched g.D.Disk.state failures outlook room mid (began.same, began.disk)) in
    let some : c.in_ok-batch.batch ≢ [] = (λ is. let yes = c.is_empty.ensures.1 is in let no : ⊥ = cc in no) in
    let given : GivesAll g.F.Feed.gives c.args.feed.now ((begun_sequel c.in_ok-begun.begun).decisions ∷ []) c.take.new.feed =
    subst (λ b. GivesAll g.F.Feed.gives c.args.feed.now (b ∷ []) c.take.new.feed) (sym began.batch) (c.take.new.feed, (some, c.in_ok-batch.ensures), refl) in
    let effects : Vec Released Global → List Effect = λ released. effects_of_all released.items in
    let step : g.row.C.Denot → Vec Released Global → g.row.C.Denot → Type 0 = λ before released after. Called g.C.FnMut before (released, tt) tt after in
    let most : c.get.result - 1 + 1 ≡ c.args.most = (let value = c.get.ensures.value in let least = c.get.ensures.least in omega (arith, value, least)) in
    chain_along g.D.Disk g.F.Feed.gives effects step c.args.most store mid c.follow.new.store c.args.feed.now c.follow.new.feed c.args.out.now c.follow.new.out none
    (ap (λ (x : StoreState). x.table) began.same ∙ ready.table) (ap (λ (x : StoreState). x.seq) began.same ∙ ready.seq)
    (subst (λ d. HaveSucceeded (calls_of_room (store_state g.D.Disk.state store)) (outlook (disk_of store)) (outlook d)) (sym began.disk) ready.made)
    (subst IsRoomy (sym began.same) ready.roomy) ready.ready
    (λ honest settled. subst IsSettled (sym began.same) (ready.images honest settled)) c.follow.result
    (subst (λ n. IsChainOfSome g.D.Disk g.F.Feed.gives effects step n mid c.follow.new.store c.args.feed.now c.follow.new.feed c.args.out.now c.follow.new.out c.follow.result) most
    (c.follow.ensures.chain c.args.feed.now given))

pub returns-clause-checkpoint : goal.returns-clause-checkpoint
returns-clause-checkpoint g c honest settled =
    let ready = c.in_ok-make_room.ensures in
    let began = c.in_ok-begun.ensures in
    let checks = ready.checkpoint honest settled in
    let same = ap (λ (x : StoreState). x.log.generation) began.same in
    on_ok c.follow.result _ _ (λ is. (λ roomy. is ∙ (same ∙ checks.0 roomy), λ full. is ∙ (same ∙ checks.1 full)))
    (c.follow.ensures.generation honest (subst IsSettled (sym began.same) (ready.images honest settled)))

pub returns-clause-lives : goal.returns-clause-lives
returns-clause-lives g c honest =
    let s = store_state g.D.Disk.state c.args.store.now in
    let room = store_state g.D.Disk.state c.make_room.new.store in
    let mid = store_state g.D.Disk.state c.begin.new.self in
    let ready = c.in_ok-make_room.ensures in
    let began = c.in_ok-begun.ensures in
    let some : c.in_ok-batch.batch ≢ [] = (λ is. let yes = c.is_empty.ensures.1 is in let no : ⊥ = cc in no) in
    let given : GivesAll g.F.Feed.gives c.args.feed.now ((begun_sequel c.in_ok-begun.begun).decisions ∷ []) c.take.new.feed =
    subst (λ b. GivesAll g.F.Feed.gives c.args.feed.now (b ∷ []) c.take.new.feed) (sym began.batch) (c.take.new.feed, (some, c.in_ok-batch.ensures), refl) in
    let effects : Vec Released Global → List Effect = λ released. effects_of_all released.items in
    let step : g.row.C.Denot → Vec Released Global → g.row.C.Denot → Type 0 = λ before released after. Called g.C.FnMut before (released, tt) tt after in
    let alive : room.failed ≡ false = not_failed room.failed c.in_ok-begun.begun Failed _ began.answer in
    stays_first effects step s mid (store_state g.D.Disk.state c.follow.new.store) c.args.out.now c.follow.new.out
    (λ t number lives led. subst (HaveLed lives t number) (sym began.same)
    (by_failed lives t number s led (λ is. subst (HaveLed lives t number) (sym (ready.closed is).0) led)
    (λ nothing settled. rests lives t number s led c.a_settled_store_is_on_its_disk.ensures room ready.table ready.seq nothing (ready.images honest settled))))
    (chain_leads effects step c.composing.ensures.table c.a_settled_store_is_on_its_disk.ensures g.D.Disk g.F.Feed.gives (c.get.result - 1 + 1) c.begin.new.self c.follow.new.store
    c.args.feed.now c.follow.new.feed c.args.out.now c.follow.new.out c.follow.result (c.follow.ensures.chain c.args.feed.now given).0 honest
    (ap (λ (x : StoreState). x.failed) began.same ∙ alive))
