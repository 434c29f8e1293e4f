use Rattle.std.proofs.Common.{◌∙◌, refl, ap, subst, sym}
use Rattle.store.specs.State.{store_state}
use Rattle.store.specs.declared.publishing.Publishing.TheVariants.{Begun}
use Rattle.store.specs.declared.under_way.UnderWay.TheVariants as ways
use Rattle.world.specs.declared.commit.LastCommit.TheVariants as commits
use Rattle.world.specs.declared.commit.Pipeline.{Pipeline}
use Rattle.world.specs.Commits.{at_rest}
use Rattle.world.specs.Course.Checkpoint.{CallsLeft}
use Rattle.world.specs.Follows.{FollowsLife, IsLife}
use Rattle.world.proofs.Listening.{listens-on}
use Rattle.world.proofs.Publishing.{publishes}
use Rattle.world.proofs.Taking.{moved, same_commits}
use Rattle.world.proofs.Waiting.{checkpoint_hindered, hindered_checkpoint}
use Rattle.world.proofs.life.Life.checkpoint.Goals as goal

pub returns-in-Some-clause-course : goal.returns-in-Some-clause-course
returns-in-Some-clause-course g c origin course f =
    let life = c.args.self.now in (
      checkpoint_hindered origin course (store_state g.D.Disk.state life.store) life.commits c.in-Some.answer f.0.under_way c.in-Some.ensures,
      subst (λ k. FollowsLife g.D.Disk.state origin k life) (sym (hindered_checkpoint origin course life.commits c.in-Some.answer c.in-Some.ensures)) f,
    )

pub returns-in-Ok-clause-course : goal.returns-in-Ok-clause-course
returns-in-Ok-clause-course g c origin course f =
    let life = c.args.self.now in
    let s = store_state g.D.Disk.state life.store in
    let next = record course { checkpoint = CallsLeft c.calls_left-calls.result } in
    let begun = record at_rest { last = commits.UnderWay (ways.Checkpoint (Begun c.in-Ok.checkpoint)) } in
    let rest = subst (λ k. IsLife origin course s life.core.decisions k) c.in_default.ensures f.0 in
    let found = publishes origin course s life.core.decisions c.in-Ok.checkpoint c.calls_left-calls.result c.calls_left-calls.ensures c.in-Ok.ensures.begun rest in (
      found.0,
      (
        moved origin next s s life.core.decisions life.core.decisions begun c.set.new.self refl refl
            (same_commits c.set.new.self begun (c.set.ensures.ahead ∙ ap (λ (k : Pipeline). k.ahead) c.in_default.ensures) c.set.ensures.last) found.1,
        listens-on course next life.core life.core life.links life.links refl refl refl refl refl refl refl f.1,
      ),
    )
