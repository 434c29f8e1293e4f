use denote.Param.Members.{Called}
use Rattle.std.proofs.Common.{Vec, Global, Ok, subst, sym}
use Rattle.store.specs.State.{store_state}
use Rattle.flusher_lives.specs.Deciding.{EachHolds, KeepsDecided}
use Rattle.flusher.specs.Released.{effects_of_all}
use Rattle.flusher.specs.declared.released.Released.{Released}
use Rattle.flusher_lives.proofs.CoreLives.{keeps_all, kept}
use Rattle.flusher_lives.proofs.core_lives.live.Goals as goal

pub returns-in-Ok-clause-course : goal.returns-in-Ok-clause-course
returns-in-Ok-clause-course g c = record {
  opening = Ok c.in-Ok.store;
  reopened = c.in-Ok.ensures;
  goes_on = (c.decide.new.store, (c.decide.result, (c.decide.ensures.course, c.close.ensures)));
}

pub returns-in-Ok-clause-kept : goal.returns-in-Ok-clause-kept
returns-in-Ok-clause-kept g c image permitted =
    let state = g.D.Disk.state in
    let reopened = c.in-Ok.ensures in
    let opened = reopened.answer.opened g.met.D.Sim.is_honest in (
      (state reopened.at).content,
      (
        reopened.permitted,
        λ found held.
            let only = opened.only found.table found.seq held in
            (subst (λ d. EachHolds (state d) (λ last. KeepsDecided (λ (released : Vec Released Global). effects_of_all released.items) (λ before released after. Called g.C.FnMut before (released, tt) tt after) c.args.life.coming.items found last c.args.out.now c.decide.new.out)) (sym c.close.ensures)
            (kept g.D.Disk.honest (λ (released : Vec Released Global). effects_of_all released.items) (λ before released after. Called g.C.FnMut before (released, tt) tt after)
            (record { folding = c.folding.ensures.table; joins = c.joining.ensures.continues; composing = c.composing.ensures.table; effects = c.composing.ensures.effects })
            c.args.life.coming.items (store_state state c.in-Ok.store) (store_state state c.decide.new.store) c.args.out.now c.decide.new.out g.met.D.Sim.is_honest opened.settled
            c.decide.ensures.decided found only.0 only.1)) image permitted,
      ),
    )

pub returns-clause-kept : goal.returns-clause-kept
returns-clause-kept g c image permitted =
    let was = c.in-Err.ensures.kept image permitted in (
      was.0,
      (
        was.1.0,
        λ found held. (found, (was.1.1 found.table found.seq held, keeps_all g.D.Disk.honest (λ (released : Vec Released Global). effects_of_all released.items) (λ before released after. Called g.C.FnMut before (released, tt) tt after) c.args.life found c.args.out.now)),
      ),
    )
