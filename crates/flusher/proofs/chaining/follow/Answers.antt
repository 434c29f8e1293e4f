use denote.Param.Always.{mut_next}
use denote.Param.Members.{Called}
use Rattle.std.proofs.Common.{◌<◌, ◌+◌, ◌-◌, ◌*◌, ◌∙◌, List, [], Vec, Global, Ok, Err, MatchOption, MatchResult, inl, ap, subst, sym, refl, arith}
use Rattle.std.proofs.lemmas.Result.{err_from_is_err_and}
use Rattle.devices.specs.declared.effect.Effect.{Effect}
use Rattle.store.specs.State.{IsOneCall, disk_of, store_state}
use Rattle.store.specs.UnderWay.{IsNextCall, flights_in}
use Rattle.store.specs.declared.under_way.Called.{Called as NextCalled}
use Rattle.store.specs.declared.under_way.Called.TheVariants as called
use Rattle.store.specs.declared.under_way.UnderWay.TheVariants.{GateWritten}
use Rattle.flusher.specs.Chain.{FollowsOpened, IsChainOfSome, IsFollowRefusal, NoneFollows}
use Rattle.flusher.specs.Released.{effects_of_all}
use Rattle.flusher.specs.declared.released.Released.{Released}
use Rattle.flusher.specs.declared.room.Room.{Room}
use Rattle.flusher.proofs.Calling.{no_calls, none_yet}
use Rattle.flusher.proofs.Chains.{FoldLaws, commits_none, rank_of}
use Rattle.flusher.proofs.Ends.{breaks, ends_refused, ends_well}
use Rattle.flusher.proofs.Links.{IsFlying, IsUpTo, flying_durable, flying_follows, flying_next, none_behind, not_alone, pair_behind, rank_durable, rank_less, some_behind, up_to_asked, up_to_durable, up_to_follows}
use Rattle.flusher.proofs.Making.{HasMade, made_durable, made_follows, made_next}
use Rattle.flusher.proofs.chaining.follow.Goals as goal

pub calls-init : goal.calls-init
calls-init g c = (
  c.requires.out,
  (
    record {
      way = c.requires.way;
      some = omega arith;
      bound = let few = c.requires.few in omega (arith, few);
      calls = none_yet g.D.Disk.failures g.D.Disk.outlook c.args.store.now;
      on_disk = λ honest settled. c.requires.begun settled;
      generation = λ honest settled. refl;
    },
    (
      record {
        made = 0;
        foreseen = no_calls (g.D.Disk.outlook (disk_of c.args.store.now));
        left = omega arith;
        late = inl refl;
      },
      λ before given. record {
        done = [];
        mid = before;
        here = c.args.feed.now;
        given = refl;
        taken = given;
        number = omega arith;
        commits = commits_none (store_state g.D.Disk.state c.args.store.now);
        leave = refl;
        counted = refl;
        behind = (refl, refl);
      },
    ),
  ),
)

pub returns-in_err-next-clause-chain : goal.returns-in_err-next-clause-chain
returns-in_err-next-clause-chain g c before given =
    let laws : FoldLaws =
    record {
      folded = c.folding.ensures.table;
      effects = c.folding.ensures.effects;
      continued = λ t seq first second a b. (c.joining.ensures.continues t seq first second).1 (a, b);
      joined = c.joining.ensures.table;
      composed = c.composing.ensures.table;
    } in
    let effects : Vec Released Global → List Effect = λ released. effects_of_all released.items in
    let step : g.row.C.Denot → Vec Released Global → g.row.C.Denot → Type 0 = λ before released after. Called g.C.FnMut before (released, tt) tt after in
    let refusal = c.in_err-next.field-0.0 in
    let refused = err_from_is_err_and c.from_residual.result c.from_residual.ensures.1 in
    subst (λ r. IsChainOfSome g.D.Disk g.F.Feed.gives effects step (c.args.more + 1) c.args.store.now c.call.new.store before c.calls.feed c.args.out.now c.calls.out r)
    (sym (refused.1 ∙ ap Err refused.2))
    (breaks laws c.a_settled_store_is_on_its_disk.ensures g.D.Disk g.F.Feed.gives effects step (c.args.more + 1) c.args.store.now c.calls.store c.call.new.store before c.calls.feed
    c.args.out.now c.calls.out c.calls.under_way c.calls.more c.calls.count c.calls.end c.requires.roomy c.requires.alive c.calls.invariant.1.0
    (c.calls.invariant.1.1.1 before given) c.calls.invariant.1.1.0 refusal c.in_err-next.ensures.next c.in_err-next.ensures.call)

pub calls-preserved-in-Ok-Some : goal.calls-preserved-in-Ok-Some
calls-preserved-in-Ok-Some g c =
    let effects : Vec Released Global → List Effect = λ released. effects_of_all released.items in
    let step : g.row.C.Denot → Vec Released Global → g.row.C.Denot → Type 0 = λ before released after. Called g.C.FnMut before (released, tt) tt after in
    let opened = c.in-GateWritten.opened in
    let room = c.in-GateWritten.room in
    let is = c.in-UnderWay.is ∙ ap called.UnderWay c.in-GateWritten.is in
    let e = subst (λ x. IsNextCall g.D.Disk c.calls.store c.calls.under_way (Ok x) c.call.new.store) is c.in_ok-next.ensures.next in
    let call = subst (λ x. IsOneCall {T = NextCalled Room} g.D.Disk.failures g.D.Disk.outlook c.calls.store c.call.new.store (Ok x)) is c.in_ok-next.ensures.call in
    let follows : FollowsOpened g.F.Feed.gives c.calls.more (store_state g.D.Disk.state c.call.new.store) opened c.calls.feed c.begin_following.new.feed c.in-Ok-Some.following =
    subst (λ o. MatchOption o (NoneFollows g.F.Feed.gives c.calls.more (store_state g.D.Disk.state c.call.new.store) opened c.calls.feed c.begin_following.new.feed)
    (λ both. FollowsOpened g.F.Feed.gives c.calls.more (store_state g.D.Disk.state c.call.new.store) opened c.calls.feed c.begin_following.new.feed both.0)) c.in-Ok-Some.field-0-is
    c.in-Ok-Some.ensures in
    let is_followed = sym c.followed-under_way.ensures in (
      c.calls.invariant.0,
      (
        subst (λ w. IsFlying g.D.Disk c.args.store.now c.call.new.store w (c.calls.more - 1) c.calls.count) is_followed
            (flying_follows g.D.Disk c.args.store.now c.calls.store c.call.new.store c.calls.under_way c.calls.more c.calls.count c.calls.invariant.1.0 opened room e call
            g.F.Feed.gives effects step (c.args.more + 1) c.args.feed.now c.calls.feed c.begin_following.new.feed c.args.out.now c.calls.out c.calls.end c.in-Ok-Some.following
            c.in-Ok-Some.behind follows),
        (
          subst (λ w. HasMade g.D.Disk c.args.store.now c.call.new.store w (c.args.more + 1) (c.calls.more - 1)) is_followed
              (made_follows g.D.Disk c.args.store.now c.calls.store c.call.new.store c.calls.under_way (c.args.more + 1) c.calls.more c.calls.invariant.1.0.some
              c.calls.invariant.1.1.0 opened room c.in-Ok-Some.following c.in-Ok-Some.behind e call follows.more_may),
          λ before given.
              subst (λ w. IsUpTo g.D.Disk g.F.Feed.gives effects step (c.args.more + 1) c.args.store.now c.call.new.store before c.begin_following.new.feed c.args.out.now c.calls.out w
              (c.calls.more - 1) c.calls.count c.calls.end) is_followed
              (up_to_follows g.D.Disk c.args.store.now c.calls.store c.call.new.store c.calls.under_way c.calls.more c.calls.count c.calls.invariant.1.0 opened room e call
              g.F.Feed.gives effects step (c.args.more + 1) before c.calls.feed c.begin_following.new.feed c.args.out.now c.calls.out c.calls.end c.in-Ok-Some.following
              c.in-Ok-Some.behind follows (c.calls.invariant.1.1.1 before given)),
        ),
      ),
    )

pub calls-preserved-in-Ok-None : goal.calls-preserved-in-Ok-None
calls-preserved-in-Ok-None g c =
    let effects : Vec Released Global → List Effect = λ released. effects_of_all released.items in
    let step : g.row.C.Denot → Vec Released Global → g.row.C.Denot → Type 0 = λ before released after. Called g.C.FnMut before (released, tt) tt after in
    let opened = c.in-GateWritten.opened in
    let next = GateWritten opened c.in-GateWritten.room in
    let s = store_state g.D.Disk.state c.call.new.store in
    let is = c.in-UnderWay.is ∙ ap called.UnderWay c.in-GateWritten.is in
    let e = subst (λ x. IsNextCall g.D.Disk c.calls.store c.calls.under_way (Ok x) c.call.new.store) is c.in_ok-next.ensures.next in
    let call = subst (λ x. IsOneCall {T = NextCalled Room} g.D.Disk.failures g.D.Disk.outlook c.calls.store c.call.new.store (Ok x)) is c.in_ok-next.ensures.call in
    let none : NoneFollows g.F.Feed.gives c.calls.more s opened c.calls.feed c.begin_following.new.feed =
    subst (λ o. MatchOption o (NoneFollows g.F.Feed.gives c.calls.more s opened c.calls.feed c.begin_following.new.feed)
    (λ both. FollowsOpened g.F.Feed.gives c.calls.more s opened c.calls.feed c.begin_following.new.feed both.0)) c.in-Ok-None.field-0-is c.in-Ok-None.ensures in (
      c.calls.invariant.0,
      (
        flying_next g.D.Disk c.args.store.now c.calls.store c.call.new.store c.calls.under_way c.calls.more c.calls.count c.calls.invariant.1.0 next e call,
        (
          made_next g.D.Disk c.args.store.now c.calls.store c.call.new.store c.calls.under_way (c.args.more + 1) c.calls.more c.calls.invariant.1.0.some c.calls.invariant.1.1.0 next e
              call,
          λ before given.
              let up_to = c.calls.invariant.1.1.1 before given in
              let behind =
              none_behind g.D.Disk c.args.store.now c.calls.store c.call.new.store c.calls.under_way c.calls.more c.calls.count c.calls.invariant.1.0 next e call g.F.Feed.gives
              effects step (c.args.more + 1) before c.calls.feed c.args.out.now c.calls.out c.calls.end up_to in
              up_to_asked g.D.Disk c.args.store.now c.calls.store c.call.new.store c.calls.under_way c.calls.more c.calls.count c.calls.invariant.1.0 next e call g.F.Feed.gives
              effects step (c.args.more + 1) before c.calls.feed c.args.out.now c.calls.out c.calls.end up_to c.calls.more c.begin_following.new.feed c.calls.end refl
              (subst (λ r. MatchResult r (λ _. NoneFollows g.F.Feed.gives c.calls.more s opened up_to.here c.begin_following.new.feed)
              (λ e. IsFollowRefusal g.F.Feed.gives c.calls.more s opened up_to.here c.begin_following.new.feed e)) (sym behind.1)
              (subst (λ f. NoneFollows g.F.Feed.gives c.calls.more s opened f c.begin_following.new.feed) behind.0 none)),
        ),
      ),
    )

pub calls-preserved-in-Err : goal.calls-preserved-in-Err
calls-preserved-in-Err g c =
    let effects : Vec Released Global → List Effect = λ released. effects_of_all released.items in
    let step : g.row.C.Denot → Vec Released Global → g.row.C.Denot → Type 0 = λ before released after. Called g.C.FnMut before (released, tt) tt after in
    let opened = c.in-GateWritten.opened in
    let next = GateWritten opened c.in-GateWritten.room in
    let s = store_state g.D.Disk.state c.call.new.store in
    let is = c.in-UnderWay.is ∙ ap called.UnderWay c.in-GateWritten.is in
    let e = subst (λ x. IsNextCall g.D.Disk c.calls.store c.calls.under_way (Ok x) c.call.new.store) is c.in_ok-next.ensures.next in
    let call = subst (λ x. IsOneCall {T = NextCalled Room} g.D.Disk.failures g.D.Disk.outlook c.calls.store c.call.new.store (Ok x)) is c.in_ok-next.ensures.call in
    let refused : IsFollowRefusal g.F.Feed.gives c.calls.more s opened c.calls.feed c.begin_following.new.feed c.in-Err.refusal = c.in-Err.ensures in (
      c.calls.invariant.0,
      (
        flying_next g.D.Disk c.args.store.now c.calls.store c.call.new.store c.calls.under_way c.calls.more c.calls.count c.calls.invariant.1.0 next e call,
        (
          made_next g.D.Disk c.args.store.now c.calls.store c.call.new.store c.calls.under_way (c.args.more + 1) c.calls.more c.calls.invariant.1.0.some c.calls.invariant.1.1.0 next e
              call,
          λ before given.
              let up_to = c.calls.invariant.1.1.1 before given in
              let behind =
              none_behind g.D.Disk c.args.store.now c.calls.store c.call.new.store c.calls.under_way c.calls.more c.calls.count c.calls.invariant.1.0 next e call g.F.Feed.gives
              effects step (c.args.more + 1) before c.calls.feed c.args.out.now c.calls.out c.calls.end up_to in
              up_to_asked g.D.Disk c.args.store.now c.calls.store c.call.new.store c.calls.under_way c.calls.more c.calls.count c.calls.invariant.1.0 next e call g.F.Feed.gives
              effects step (c.args.more + 1) before c.calls.feed c.args.out.now c.calls.out c.calls.end up_to c.calls.more c.begin_following.new.feed (Err c.in-Err.refusal) refl
              (subst (λ f. IsFollowRefusal g.F.Feed.gives c.calls.more s opened f c.begin_following.new.feed c.in-Err.refusal) behind.0 refused),
        ),
      ),
    )

pub calls-smaller-in_default : goal.calls-smaller-in_default
calls-smaller-in_default g c =
    let next = c.in-UnderWay.next in
    let e = subst (λ x. IsNextCall g.D.Disk c.calls.store c.calls.under_way (Ok x) c.call.new.store) c.in-UnderWay.is c.in_ok-next.ensures.next in
    let less = rank_less c.calls.under_way next c.calls.invariant.1.0.some e.flights in
    let is : 4 * c.calls.more + rank_of (flights_in next) < 4 * c.calls.more + rank_of (flights_in c.calls.under_way) = omega (arith, less) in
    is

pub calls-preserved-in_default : goal.calls-preserved-in_default
calls-preserved-in_default g c =
    let effects : Vec Released Global → List Effect = λ released. effects_of_all released.items in
    let step : g.row.C.Denot → Vec Released Global → g.row.C.Denot → Type 0 = λ before released after. Called g.C.FnMut before (released, tt) tt after in
    let next = c.in-UnderWay.next in
    let s = store_state g.D.Disk.state c.call.new.store in
    let e = subst (λ x. IsNextCall g.D.Disk c.calls.store c.calls.under_way (Ok x) c.call.new.store) c.in-UnderWay.is c.in_ok-next.ensures.next in
    let call = subst (λ x. IsOneCall {T = NextCalled Room} g.D.Disk.failures g.D.Disk.outlook c.calls.store c.call.new.store (Ok x)) c.in-UnderWay.is c.in_ok-next.ensures.call in (
      c.calls.invariant.0,
      (
        flying_next g.D.Disk c.args.store.now c.calls.store c.call.new.store c.calls.under_way c.calls.more c.calls.count c.calls.invariant.1.0 next e call,
        (
          made_next g.D.Disk c.args.store.now c.calls.store c.call.new.store c.calls.under_way (c.args.more + 1) c.calls.more c.calls.invariant.1.0.some c.calls.invariant.1.1.0 next e
              call,
          λ before given.
              let up_to = c.calls.invariant.1.1.1 before given in
              let behind =
              none_behind g.D.Disk c.args.store.now c.calls.store c.call.new.store c.calls.under_way c.calls.more c.calls.count c.calls.invariant.1.0 next e call g.F.Feed.gives
              effects step (c.args.more + 1) before c.calls.feed c.args.out.now c.calls.out c.calls.end up_to in
              up_to_asked g.D.Disk c.args.store.now c.calls.store c.call.new.store c.calls.under_way c.calls.more c.calls.count c.calls.invariant.1.0 next e call g.F.Feed.gives
              effects step (c.args.more + 1) before c.calls.feed c.args.out.now c.calls.out c.calls.end up_to c.calls.more c.calls.feed c.calls.end refl
              (not_alone g.F.Feed.gives c.calls.more s up_to.here c.calls.feed c.calls.end next c.in_default.not-GateWritten behind),
        ),
      ),
    )

pub calls-smaller : goal.calls-smaller
calls-smaller g c =
    let next = c.in-Some.next in
    let durable = c.in-Durable.durable in
    let is = c.in-Durable.is ∙ ap (called.Durable durable c.in-Durable.room) c.in-Some.is in
    let e = subst (λ x. IsNextCall g.D.Disk c.calls.store c.calls.under_way (Ok x) c.call.new.store) is c.in_ok-next.ensures.next in
    let some =
    some_behind (store_state g.D.Disk.state c.calls.store) (store_state g.D.Disk.state c.call.new.store) c.calls.under_way next c.calls.invariant.1.0.some e.calls in
    let less = rank_durable c.calls.under_way next _ e.flights some in
    let is : 4 * c.calls.more + rank_of (flights_in next) < 4 * c.calls.more + rank_of (flights_in c.calls.under_way) = omega (arith, less) in
    is

pub calls-preserved : goal.calls-preserved
calls-preserved g c =
    let laws : FoldLaws =
    record {
      folded = c.folding.ensures.table;
      effects = c.folding.ensures.effects;
      continued = λ t seq first second a b. (c.joining.ensures.continues t seq first second).1 (a, b);
      joined = c.joining.ensures.table;
      composed = c.composing.ensures.table;
    } in
    let effects : Vec Released Global → List Effect = λ released. effects_of_all released.items in
    let step : g.row.C.Denot → Vec Released Global → g.row.C.Denot → Type 0 = λ before released after. Called g.C.FnMut before (released, tt) tt after in
    let next = c.in-Some.next in
    let durable = c.in-Durable.durable in
    let room = c.in-Durable.room in
    let s = store_state g.D.Disk.state c.calls.store in
    let s' = store_state g.D.Disk.state c.call.new.store in
    let e = subst (λ x. IsNextCall g.D.Disk c.calls.store c.calls.under_way (Ok x) c.call.new.store) c.in-Durable.is c.in_ok-next.ensures.next in
    let is = c.in-Durable.is ∙ ap (called.Durable durable room) c.in-Some.is in
    let e' = subst (λ x. IsNextCall g.D.Disk c.calls.store c.calls.under_way (Ok x) c.call.new.store) is c.in_ok-next.ensures.next in
    let call = subst (λ x. IsOneCall {T = NextCalled Room} g.D.Disk.failures g.D.Disk.outlook c.calls.store c.call.new.store (Ok x)) is c.in_ok-next.ensures.call in
    let some = some_behind s s' c.calls.under_way next c.calls.invariant.1.0.some e'.calls in
    let out = c.release-count.ensures.released in (
      mut_next g.C.FnMut c.calls.out (out.0, tt) tt c.release-count.new.out c.release-count.new.out out.1.1 refl c.calls.invariant.0,
      (
        flying_durable g.D.Disk c.args.store.now c.calls.store c.call.new.store c.calls.under_way c.calls.more c.calls.count c.calls.invariant.1.0 durable room next e' call
            c.release-count.result c.release-count.ensures.few,
        (
          made_durable g.D.Disk c.args.store.now c.calls.store c.call.new.store c.calls.under_way (c.args.more + 1) c.calls.more c.calls.invariant.1.0.some c.calls.invariant.1.1.0
              durable room next _ e'.flights some call,
          λ before given.
              let up_to = c.calls.invariant.1.1.1 before given in
              up_to_durable laws g.D.Disk g.F.Feed.gives effects step (c.args.more + 1) c.args.store.now c.calls.store c.call.new.store before c.calls.feed c.args.out.now
              c.calls.out c.release-count.new.out c.calls.under_way c.calls.more c.calls.count c.calls.end c.calls.invariant.1.0 up_to durable room c.in-Durable.behind e out.0 out.1.0
              out.1.1 next c.in-Some.is c.release-count.result c.release-count.ensures.count
              (pair_behind g.F.Feed.gives c.calls.more s s' up_to.here c.calls.feed c.calls.end c.calls.under_way next _ e'.flights some up_to.behind),
        ),
      ),
    )

pub returns-in-None-clause-chain : goal.returns-in-None-clause-chain
returns-in-None-clause-chain g c before given =
    let laws : FoldLaws =
    record {
      folded = c.folding.ensures.table;
      effects = c.folding.ensures.effects;
      continued = λ t seq first second a b. (c.joining.ensures.continues t seq first second).1 (a, b);
      joined = c.joining.ensures.table;
      composed = c.composing.ensures.table;
    } in
    let effects : Vec Released Global → List Effect = λ released. effects_of_all released.items in
    let step : g.row.C.Denot → Vec Released Global → g.row.C.Denot → Type 0 = λ before released after. Called g.C.FnMut before (released, tt) tt after in
    let durable = c.in-Durable.durable in
    let room = c.in-Durable.room in
    let is = c.in-Durable.is ∙ ap (called.Durable durable room) c.in-None.is in
    let e = subst (λ x. IsNextCall g.D.Disk c.calls.store c.calls.under_way (Ok x) c.call.new.store) is c.in_ok-next.ensures.next in
    let call = subst (λ x. IsOneCall {T = NextCalled Room} g.D.Disk.failures g.D.Disk.outlook c.calls.store c.call.new.store (Ok x)) is c.in_ok-next.ensures.call in
    let out = c.release-count.ensures.released in
    let up_to = c.calls.invariant.1.1.1 before given in
    ends_well laws c.a_settled_store_is_on_its_disk.ensures g.D.Disk g.F.Feed.gives effects step (c.args.more + 1) c.args.store.now c.calls.store c.call.new.store before c.calls.feed
    c.args.out.now c.calls.out c.calls.under_way c.calls.more c.calls.count c.calls.end c.requires.roomy c.requires.alive c.calls.invariant.1.0 up_to c.calls.invariant.1.1.0 durable room e call
    c.release-count.new.out out.0 out.1.0 out.1.1 c.release-count.result c.release-count.ensures.count c.in_ok-end-in-None.was

pub returns-in_err-end-in-None-clause-chain : goal.returns-in_err-end-in-None-clause-chain
returns-in_err-end-in-None-clause-chain g c before given =
    let laws : FoldLaws =
    record {
      folded = c.folding.ensures.table;
      effects = c.folding.ensures.effects;
      continued = λ t seq first second a b. (c.joining.ensures.continues t seq first second).1 (a, b);
      joined = c.joining.ensures.table;
      composed = c.composing.ensures.table;
    } in
    let effects : Vec Released Global → List Effect = λ released. effects_of_all released.items in
    let step : g.row.C.Denot → Vec Released Global → g.row.C.Denot → Type 0 = λ before released after. Called g.C.FnMut before (released, tt) tt after in
    let durable = c.in-Durable.durable in
    let room = c.in-Durable.room in
    let is = c.in-Durable.is ∙ ap (called.Durable durable room) c.in-None.is in
    let e = subst (λ x. IsNextCall g.D.Disk c.calls.store c.calls.under_way (Ok x) c.call.new.store) is c.in_ok-next.ensures.next in
    let call = subst (λ x. IsOneCall {T = NextCalled Room} g.D.Disk.failures g.D.Disk.outlook c.calls.store c.call.new.store (Ok x)) is c.in_ok-next.ensures.call in
    let out = c.release-count.ensures.released in
    let up_to = c.calls.invariant.1.1.1 before given in
    let refused = err_from_is_err_and c.from_residual-in_err-end-in-None.result c.from_residual-in_err-end-in-None.ensures.1 in
    subst (λ r. IsChainOfSome g.D.Disk g.F.Feed.gives effects step (c.args.more + 1) c.args.store.now c.call.new.store before c.calls.feed c.args.out.now c.release-count.new.out r)
    (sym (refused.1 ∙ ap Err refused.2))
    (ends_refused laws c.a_settled_store_is_on_its_disk.ensures g.D.Disk g.F.Feed.gives effects step (c.args.more + 1) c.args.store.now c.calls.store c.call.new.store before c.calls.feed
    c.args.out.now c.calls.out c.calls.under_way c.calls.more c.calls.count c.calls.end c.requires.roomy c.requires.alive c.calls.invariant.1.0 up_to c.calls.invariant.1.1.0 durable room e call
    c.release-count.new.out out.0 out.1.0 out.1.1 c.release-count.result c.release-count.ensures.count c.in_err-end-in-None.field-0.0 c.in_err-end-in-None.was)
