use denote.Param.Members.{Called}
use Rattle.std.proofs.Common.{◌≡◌, ◌∙◌, ◌<◌, ◌≤◌, ◌+◌, ◌++◌, ◌∷◌, [], Vec, Global, List, ap, arith, length, refl, subst, sym, take}
use Rattle.std.proofs.lemmas.List.{take_more, take_all}
use Rattle.devices.specs.declared.effect.Effect.{Effect}
use Rattle.flusher.specs.Lived.{AreOnDisk, IsKnownOfLives}
use Rattle.flusher_lives.specs.OverLives.{AreFlusherLives}
use Rattle.flusher.specs.Released.{effects_of_all}
use Rattle.flusher.specs.declared.released.Released.{Released}
use Rattle.flusher.proofs.Leading.{go_then}
use Rattle.flusher_lives.proofs.MoreLives.{lives_then}
use Rattle.flusher_lives.proofs.Once.{leave_once}
use Rattle.flusher_lives.proofs.over_lives.flush_over_lives.Goals as goal

pub loop-life-preserved : goal.loop-life-preserved
loop-life-preserved g c =
    let effects : Vec Released Global → List Effect = λ released. effects_of_all released.items in
    let step : g.row.C.Denot → Vec Released Global → g.row.C.Denot → Type 0 = λ before released after. Called g.C.FnMut before (released, tt) tt after in
    let at = c.loop-life.life-index in
    let lives = c.args.lives.now in
    let life = c.life-item.result in
    let old = c.args.disk in
    let mid = c.loop-life.disk in
    let new = c.live-disk.result in
    let within : at < length lives = omega (arith, c.loop-life-test.true) in
    let next : take (at + 1) lives ≡ take at lives ++ life ∷ [] = take_more lives at life within ∙ ap (λ s. take at lives ++ s ∷ []) (sym c.life-item.is) in
    let there : g.row.D.Denot → IsKnownOfLives = λ disk lives t number. AreOnDisk lives t number (g.D.Disk.state disk) in (
      c.live-disk.ensures.callable,
      (
        subst (λ ls. AreFlusherLives g.D.Disk g.F.Feed.gives effects step ls old new c.args.feed.now c.live-disk.new.feed c.args.out.now c.live-disk.new.out) (sym next)
            (lives_then g.D.Disk g.F.Feed.gives effects step old mid new c.args.feed.now c.loop-life.feed c.live-disk.new.feed c.args.out.now c.loop-life.out c.live-disk.new.out
            (take at lives) life c.loop-life.invariant.1.0 c.live-disk.ensures.course),
        go_then effects step (there old) (there mid) (there new) c.args.out.now c.loop-life.out c.live-disk.new.out c.loop-life.invariant.1.1 c.live-disk.ensures.lives,
      ),
    )

pub returns-clause-course : goal.returns-clause-course
returns-clause-course g c =
    let effects : Vec Released Global → List Effect = λ released. effects_of_all released.items in
    let step : g.row.C.Denot → Vec Released Global → g.row.C.Denot → Type 0 = λ before released after. Called g.C.FnMut before (released, tt) tt after in
    let at = c.loop-life.life-index in
    let lives = c.args.lives.now in
    let past : length lives ≤ at = omega (arith, c.loop-life-test.false) in
    subst (λ ls. AreFlusherLives g.D.Disk g.F.Feed.gives effects step ls c.args.disk c.loop-life.disk c.args.feed.now c.loop-life.feed c.args.out.now c.loop-life.out)
    (take_all at lives past) c.loop-life.invariant.1.0

pub returns-clause-once : goal.returns-clause-once
returns-clause-once g c t number marks held covered distinct =
    let effects : Vec Released Global → List Effect = λ released. effects_of_all released.items in
    let step : g.row.C.Denot → Vec Released Global → g.row.C.Denot → Type 0 = λ before released after. Called g.C.FnMut before (released, tt) tt after in
    let old = g.D.Disk.state c.args.disk in
    leave_once effects step
    (record {
      part = c.no_mark_leaves_twice.ensures.part;
      after = c.no_mark_stands_twice.ensures.after;
      what_left = c.no_mark_stands_twice.ensures.what_left;
    })
    t number marks old (g.D.Disk.state c.loop-life.disk) c.args.out.now c.loop-life.out
    (record {
      sound = c.what_is_held_is_sound.ensures t number old.content (held old.content (record { same_length = refl; kept = λ i shut. refl }));
      covered = covered;
      distinct = distinct;
    })
    (c.lives_go_on.ensures.begun_on t number old held) c.loop-life.invariant.1.1
