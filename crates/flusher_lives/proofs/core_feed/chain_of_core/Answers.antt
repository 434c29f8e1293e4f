use denote.Param.Members.{Called}
use Rattle.std.proofs.Common.{Vec, Global}
use Rattle.flusher.specs.Released.{effects_of_all}
use Rattle.flusher.specs.declared.released.Released.{Released}
use Rattle.flusher.proofs.Leading.{leaves_callable}
use Rattle.flusher_lives.proofs.Decided.{commits_decided, ends_in_step, in_step_behind}
use Rattle.flusher_lives.proofs.core_feed.chain_of_core.Goals as goal

pub returns-clause-callable : goal.returns-clause-callable
returns-clause-callable g c =
    leaves_callable (λ (released : Vec Released Global). effects_of_all released.items) g.C.FnMut _ c.chain.ensures.chain.batches
    c.args.out.now c.chain.new.out c.chain.ensures.chain.leave c.requires.out

pub returns-clause-chain : goal.returns-clause-chain
returns-clause-chain g c = c.chain.ensures.chain

pub returns-clause-decided : goal.returns-clause-decided
returns-clause-decided g c =
    commits_decided (record { folding = c.folding.ensures.table; joins = c.joining.ensures.continues; composing = c.composing.ensures.table; effects = c.composing.ensures.effects })
    g.D.Disk (λ (released : Vec Released Global). effects_of_all released.items)
    (λ (before : g.row.C.Denot) (released : Vec Released Global) (after : g.row.C.Denot). Called g.C.FnMut before (released, tt) tt after)
    c.args.most c.args.store.now c.chain.new.store c.args.feed.now c.chain.new.feed c.args.out.now c.chain.new.out c.chain.result
    c.chain.ensures.chain c.requires.goes_on c.made-made.ensures.lawful.decisions.continues

pub returns-clause-whole : goal.returns-clause-whole
returns-clause-whole g c =
    in_step_behind (record { folding = c.folding.ensures.table; joins = c.joining.ensures.continues; composing = c.composing.ensures.table; effects = c.composing.ensures.effects })
    g.D.Disk (λ (released : Vec Released Global). effects_of_all released.items)
    (λ (before : g.row.C.Denot) (released : Vec Released Global) (after : g.row.C.Denot). Called g.C.FnMut before (released, tt) tt after)
    c.args.most c.args.store.now c.chain.new.store c.args.feed.now c.chain.new.feed c.args.out.now c.chain.new.out c.chain.result
    c.chain.ensures.chain c.requires.goes_on c.made-made.ensures.lawful.decisions.continues

pub returns-clause-in_step : goal.returns-clause-in_step
returns-clause-in_step g c =
    ends_in_step (record { folding = c.folding.ensures.table; joins = c.joining.ensures.continues; composing = c.composing.ensures.table; effects = c.composing.ensures.effects })
    g.D.Disk (λ (released : Vec Released Global). effects_of_all released.items)
    (λ (before : g.row.C.Denot) (released : Vec Released Global) (after : g.row.C.Denot). Called g.C.FnMut before (released, tt) tt after)
    c.args.most c.args.store.now c.chain.new.store c.args.feed.now c.chain.new.feed c.args.out.now c.chain.new.out c.chain.result
    c.chain.ensures.chain c.requires.goes_on c.made-made.ensures.lawful.decisions.continues
