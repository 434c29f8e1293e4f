use denote.Param.Members.{Called}
use Rattle.std.proofs.Common.{◌∷◌, ◌++◌, [], Vec, Global, arith}
use Rattle.std.proofs.lemmas.List.{length_push}
use Rattle.store.specs.State.{store_state}
use Rattle.flusher.specs.Released.{effects_of_all}
use Rattle.flusher.specs.declared.released.Released.{Released}
use Rattle.flusher.proofs.Leading.{counts_then, leaves_callable, lead_then}
use Rattle.flusher_lives.proofs.MoreLives.{refused_then}
use Rattle.flusher_lives.proofs.over_lives.flush_life.Goals as goal

pub returns-in_err-chain-clause-callable : goal.returns-in_err-chain-clause-callable
returns-in_err-chain-clause-callable g c =
    let done = c.chain.ensures.chain in
    leaves_callable (λ (released : Vec Released Global). effects_of_all released.items) g.C.FnMut _ done.batches c.loop.out c.chain.new.out done.leave c.loop.invariant.0

pub returns-in_err-chain-clause-course : goal.returns-in_err-chain-clause-course
returns-in_err-chain-clause-course g c =
    let r = c.from_residual in
    let counts = c.loop.invariant.1.1.0 in
    let many = c.loop.invariant.1.1.1.0 in
    let few = c.loop-test.true in
    refused_then g.D.Disk g.F.Feed.gives (λ (released : Vec Released Global). effects_of_all released.items)
    (λ before released after. Called g.C.FnMut before (released, tt) tt after) c.args.most c.args.chains c.args.store.now c.loop.store c.chain.new.store
    c.args.feed.now c.loop.feed c.chain.new.feed c.args.out.now c.loop.out c.chain.new.out counts r.result c.in_err-chain.field-0.0 r.ensures.1
    (omega (arith, many, few)) c.loop.invariant.1.1.1.1.1 c.in_err-chain.ensures.chain

pub returns-in_err-chain-clause-lives : goal.returns-in_err-chain-clause-lives
returns-in_err-chain-clause-lives g c =
    lead_then (λ (released : Vec Released Global). effects_of_all released.items) (λ before released after. Called g.C.FnMut before (released, tt) tt after)
    (store_state g.D.Disk.state c.args.store.now) (store_state g.D.Disk.state c.loop.store) (store_state g.D.Disk.state c.chain.new.store)
    c.args.out.now c.loop.out c.chain.new.out c.loop.invariant.1.0 (c.chain.ensures.lives g.met.D.Sim.is_honest)

pub loop-preserved : goal.loop-preserved
loop-preserved g c =
    let done = c.in_ok-chain.ensures.chain in
    let counts = c.loop.invariant.1.1.0 in
    let many = c.loop.invariant.1.1.1.0 in
    let few = c.loop-test.true in
    let count = c.in_ok-chain.field-0 in
    let longer = length_push counts count in (
      leaves_callable (λ (released : Vec Released Global). effects_of_all released.items) g.C.FnMut _ done.batches c.loop.out c.chain.new.out done.leave c.loop.invariant.0,
      (
        lead_then (λ (released : Vec Released Global). effects_of_all released.items) (λ before released after. Called g.C.FnMut before (released, tt) tt after)
            (store_state g.D.Disk.state c.args.store.now) (store_state g.D.Disk.state c.loop.store) (store_state g.D.Disk.state c.chain.new.store)
            c.args.out.now c.loop.out c.chain.new.out c.loop.invariant.1.0 (c.chain.ensures.lives g.met.D.Sim.is_honest),
        (
          counts ++ count ∷ [],
          (
            omega (arith, many, longer),
            (
              omega (arith, few),
              counts_then g.D.Disk g.F.Feed.gives (λ (released : Vec Released Global). effects_of_all released.items)
                  (λ before released after. Called g.C.FnMut before (released, tt) tt after) c.args.most c.args.store.now c.loop.store c.chain.new.store
                  c.args.feed.now c.loop.feed c.chain.new.feed c.args.out.now c.loop.out c.chain.new.out counts count c.loop.invariant.1.1.1.1.1 done,
            ),
          ),
        ),
      ),
    )
