use denote.Param.Members.{Called}
use Rattle.std.proofs.Common.{◌≡◌, ◌∙◌, ◌∷◌, ◌++◌, [], Vec, Global, Err, arith, ap, inl, inr, refl, rules, subst, sym}
use Rattle.std.proofs.lemmas.List.{length_push}
use Rattle.std.proofs.lemmas.Result.{err_from_is_err_and}
use Rattle.session_core.specs.Core.{CoreState, new_core}
use Rattle.store.specs.State.{store_state}
use Rattle.flusher_lives.specs.Coming.{GivesAfterComing}
use Rattle.flusher_lives.specs.Deciding.{StaysInStep}
use Rattle.flusher_lives.specs.declared.core_feed.CoreFeed.{CoreFeed}
use Rattle.flusher.specs.Released.{effects_of_all}
use Rattle.flusher.specs.declared.released.Released.{Released}
use Rattle.flusher_lives.proofs.CoreLives.{at_first, begins_in_step, both, both_in_step}
use Rattle.flusher.proofs.Leading.{counts_then}
use Rattle.flusher_lives.proofs.MoreLives.{refused_then}
use Rattle.flusher_lives.proofs.core_lives.decide.Goals as goal

pub returns-in_err-core-clause-course : goal.returns-in_err-core-clause-course
returns-in_err-core-clause-course g c =
    let refused = err_from_is_err_and c.from_residual.result c.from_residual.ensures.1 in
    inr (refused.1 ∙ ap Err (refused.2 ∙ c.in_err-core.ensures), (refl, refl))

pub returns-in_err-core-clause-decided : goal.returns-in_err-core-clause-decided
returns-in_err-core-clause-decided g c =
    let s = store_state g.D.Disk.state c.args.store.now in
    let begun : CoreFeed = record { core = new_core s.table s.seq; coming = c.args.coming } in (
      begun,
      (
        begun,
        (
          refl,
          (
            refl,
            (at_first g.D.Disk.honest (λ (released : Vec Released Global). effects_of_all released.items) (λ before released after. Called g.C.FnMut before (released, tt) tt after) c.a_settled_store_is_on_its_disk.ensures s begun c.args.out.now).0,
          ),
        ),
      ),
    )

pub loop-init : goal.loop-init
loop-init g c =
    let s = store_state g.D.Disk.state c.args.store.now in
    let same : new_core s.table s.seq ≡ c.new-feed.result.core = search rules in (
      c.requires.out,
      (
        c.new-feed.result,
        (
          subst (λ (core : CoreState). let feed : CoreFeed = record c.new-feed.result { core = core } in
              StaysInStep g.D.Disk.honest (λ (released : Vec Released Global). effects_of_all released.items) (λ before released after. Called g.C.FnMut before (released, tt) tt after) s s feed feed c.args.out.now c.args.out.now) same
              (at_first g.D.Disk.honest (λ (released : Vec Released Global). effects_of_all released.items) (λ before released after. Called g.C.FnMut before (released, tt) tt after) c.a_settled_store_is_on_its_disk.ensures s c.new-feed.result c.args.out.now),
          (sym same, (c.new-feed.ensures.coming, ([], (refl, (omega arith, (refl, (refl, refl))))))),
        ),
      ),
    )

pub returns-in_err-chain_of_core-clause-course : goal.returns-in_err-chain_of_core-clause-course
returns-in_err-chain_of_core-clause-course g c =
    let r = c.from_residual-in_err-chain_of_core in
    let first = c.loop.invariant.1.0 in
    let so = c.loop.invariant.1.1.1 in
    let counts = so.1.1.0 in
    let many = so.1.1.1.0 in
    let few = c.loop-test.true in
    inl (
      first,
      (
        c.chain_of_core.new.feed,
        (
          so.0,
          (
            so.1.0,
            refused_then g.D.Disk GivesAfterComing (λ (released : Vec Released Global). effects_of_all released.items) (λ before released after. Called g.C.FnMut before (released, tt) tt after) c.args.most c.args.chains c.args.store.now c.loop.store c.chain_of_core.new.store
                first c.loop.feed c.chain_of_core.new.feed c.args.out.now c.loop.out c.chain_of_core.new.out counts r.result c.in_err-chain_of_core.field-0.0 r.ensures.1
                (omega (arith, many, few)) so.1.1.1.1.1 c.in_err-chain_of_core.ensures.chain,
          ),
        ),
      ),
    )

pub returns-in_err-chain_of_core-clause-decided : goal.returns-in_err-chain_of_core-clause-decided
returns-in_err-chain_of_core-clause-decided g c =
    let s = store_state g.D.Disk.state c.args.store.now in
    let first = c.loop.invariant.1.0 in
    let so = c.loop.invariant.1.1.1 in (
      first,
      (
        c.chain_of_core.new.feed,
        (
          so.0,
          (
            so.1.0,
            both g.D.Disk.honest (λ (released : Vec Released Global). effects_of_all released.items) (λ before released after. Called g.C.FnMut before (released, tt) tt after)
                (record { folding = c.folding.ensures.table; joins = c.joining.ensures.continues; composing = c.composing.ensures.table; effects = c.composing.ensures.effects })
                s (store_state g.D.Disk.state c.loop.store) (store_state g.D.Disk.state c.chain_of_core.new.store)
                first c.loop.feed c.chain_of_core.new.feed c.args.out.now c.loop.out c.chain_of_core.new.out (begins_in_step s first.core c.loop.invariant.1.1.1.0) c.loop.invariant.1.1.0
                c.in_err-chain_of_core.ensures.decided,
          ),
        ),
      ),
    )

pub loop-preserved : goal.loop-preserved
loop-preserved g c =
    let s = store_state g.D.Disk.state c.args.store.now in
    let first = c.loop.invariant.1.0 in
    let so = c.loop.invariant.1.1.1 in
    let counts = so.1.1.0 in
    let many = so.1.1.1.0 in
    let few = c.loop-test.true in
    let count = c.in_ok-chain_of_core.field-0 in
    let longer = length_push counts count in (
      c.in_ok-chain_of_core.ensures.callable,
      (
        first,
        (
          both_in_step g.D.Disk.honest (λ (released : Vec Released Global). effects_of_all released.items) (λ before released after. Called g.C.FnMut before (released, tt) tt after)
              (record { folding = c.folding.ensures.table; joins = c.joining.ensures.continues; composing = c.composing.ensures.table; effects = c.composing.ensures.effects })
              s (store_state g.D.Disk.state c.loop.store) (store_state g.D.Disk.state c.chain_of_core.new.store)
              first c.loop.feed c.chain_of_core.new.feed c.args.out.now c.loop.out c.chain_of_core.new.out
              (begins_in_step s first.core c.loop.invariant.1.1.1.0) c.loop.invariant.1.1.0 c.in_ok-chain_of_core.ensures.whole,
          (
            so.0,
            (
              so.1.0,
              (
                counts ++ count ∷ [],
                (
                  omega (arith, many, longer),
                  (
                    omega (arith, few),
                    counts_then g.D.Disk GivesAfterComing (λ (released : Vec Released Global). effects_of_all released.items) (λ before released after. Called g.C.FnMut before (released, tt) tt after) c.args.most c.args.store.now c.loop.store c.chain_of_core.new.store
                        first c.loop.feed c.chain_of_core.new.feed c.args.out.now c.loop.out c.chain_of_core.new.out counts count so.1.1.1.1.1 c.in_ok-chain_of_core.ensures.chain,
                  ),
                ),
              ),
            ),
          ),
        ),
      ),
    )

pub returns-clause-course : goal.returns-clause-course
returns-clause-course g c =
    let so = c.loop.invariant.1.1.1 in
    let many = so.1.1.1.0 in
    let few = so.1.1.1.1.0 in
    let all = c.loop-test.false in
    inl (c.loop.invariant.1.0, (c.loop.feed, (so.0, (so.1.0, record { counts = so.1.1.0; many = omega (arith, many, few, all); made = so.1.1.1.1.1 }))))

pub returns-clause-decided : goal.returns-clause-decided
returns-clause-decided g c =
    let so = c.loop.invariant.1.1.1 in
    (c.loop.invariant.1.0, (c.loop.feed, (so.0, (so.1.0, c.loop.invariant.1.1.0.0))))
