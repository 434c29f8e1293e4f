use Rattle.std.proofs.Common.{subst, sym}
use Rattle.store.specs.State.{store_state}
use Rattle.world.specs.Follows.{FollowsLife}
use Rattle.world.proofs.Waiting.{hindered_take, take_hindered}
use Rattle.world.proofs.life.Life.take.Goals as goal

pub returns-in-Some-clause-course : goal.returns-in-Some-clause-course
returns-in-Some-clause-course g c origin course f =
    let life = c.args.self.now in (
      take_hindered origin course (store_state g.D.Disk.state life.store) life.commits c.args.most c.in-Some.answer f.0.under_way c.in-Some.ensures,
      subst (λ k. FollowsLife g.D.Disk.state origin k life) (sym (hindered_take origin course c.args.most life.commits c.in-Some.answer c.in-Some.ensures)) f,
    )
