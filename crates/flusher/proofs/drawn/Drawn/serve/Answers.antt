use denote.Param.Members.{Called}
use Rattle.std.proofs.Common.{Vec, Global, arith}
use Rattle.flusher.proofs.Chains.{FoldLaws}
use Rattle.flusher.proofs.Drawing.{chains_commit}
use Rattle.flusher.specs.Released.{effects_of_all}
use Rattle.flusher.specs.declared.released.Released.{Released}
use Rattle.flusher.proofs.drawn.Drawn.serve.Goals as goal

pub returns-clause-next : goal.returns-clause-next
returns-clause-next g c =
    let laws : FoldLaws =
    record {
      folded = c.folding.ensures.table;
      effects = c.folding.ensures.effects;
      continued = λ t seq first second fits next. (c.joining.ensures.continues t seq first second).1 (fits, next);
      joined = c.joining.ensures.table;
      composed = c.composing.ensures.table;
    } in
    let (counts, (made, asks)) = c.serve.ensures.chains in
    chains_commit laws c.composing.ensures.effects (λ (released : Vec Released Global). effects_of_all released.items)
    (λ before released after. Called g.C.FnMut before (released, tt) tt after) g.D.Disk 64 (omega arith) c.args.store.now c.serve.new.store
    c.args.self.now c.serve.new.feed c.args.out.now c.serve.new.out counts c.serve.result made
