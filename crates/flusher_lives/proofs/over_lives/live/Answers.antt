use denote.Param.Members.{Called}
use Rattle.std.proofs.Common.{Vec, Global, List, Ok, subst, sym}
use Rattle.devices.specs.declared.effect.Effect.{Effect}
use Rattle.store.specs.State.{store_state}
use Rattle.flusher.specs.Lived.{AreOnDisk, HaveLed, IsKnownOfLives}
use Rattle.flusher.specs.Released.{effects_of_all}
use Rattle.flusher.specs.declared.released.Released.{Released}
use Rattle.flusher.proofs.Leading.{at_once, go_then, go_weaker, open_on}
use Rattle.flusher_lives.proofs.over_lives.live.Goals as goal

pub returns-in-Ok-clause-course : goal.returns-in-Ok-clause-course
returns-in-Ok-clause-course g c = record {
  opening = Ok c.in-Ok.store;
  reopened = c.in-Ok.ensures;
  goes_on = (c.flush_life.new.store, (c.flush_life.result, (c.flush_life.ensures.course, c.close.ensures)));
}

pub returns-in-Ok-clause-lives : goal.returns-in-Ok-clause-lives
returns-in-Ok-clause-lives g c =
    let effects : Vec Released Global → List Effect = λ released. effects_of_all released.items in
    let step : g.row.C.Denot → Vec Released Global → g.row.C.Denot → Type 0 = λ before released after. Called g.C.FnMut before (released, tt) tt after in
    let state = g.D.Disk.state in
    let old : IsKnownOfLives = λ lives t number. AreOnDisk lives t number (state c.args.disk) in
    let opened : IsKnownOfLives = λ lives t number. HaveLed lives t number (store_state state c.in-Ok.store) in
    let last : IsKnownOfLives = λ lives t number. HaveLed lives t number (store_state state c.flush_life.new.store) in
    let closed : IsKnownOfLives = λ lives t number. AreOnDisk lives t number (state c.close.result) in
    let out = c.args.out.now in
    let out' = c.flush_life.new.out in
    let laws = c.lives_go_on.ensures in
    go_weaker effects step old last closed out out'
    (λ lives t number led. subst (λ d. AreOnDisk lives t number (state d)) (sym c.close.ensures)
    (laws.closed lives t number (store_state state c.flush_life.new.store) led))
    (go_then effects step old opened last out out out'
    (open_on effects step old opened out
    (λ lives t number on. laws.opened_from lives t number (state c.args.disk) (store_state state c.in-Ok.store) (state c.in-Ok.ensures.at).content on
    c.in-Ok.ensures.permitted (c.in-Ok.ensures.answer.opened g.met.D.Sim.is_honest)))
    c.flush_life.ensures.lives)

pub returns-in-Err-clause-lives : goal.returns-in-Err-clause-lives
returns-in-Err-clause-lives g c =
    let effects : Vec Released Global → List Effect = λ released. effects_of_all released.items in
    let step : g.row.C.Denot → Vec Released Global → g.row.C.Denot → Type 0 = λ before released after. Called g.C.FnMut before (released, tt) tt after in
    let state = g.D.Disk.state in
    let old : IsKnownOfLives = λ lives t number. AreOnDisk lives t number (state c.args.disk) in
    let back : IsKnownOfLives = λ lives t number. AreOnDisk lives t number (state c.in-Err.disk) in
    let out = c.args.out.now in
    go_weaker effects step old old back out out
    (λ lives t number on. c.lives_go_on.ensures.refused lives t number (state c.args.disk) (state c.in-Err.disk) on c.in-Err.ensures.kept) (at_once effects step old out)
