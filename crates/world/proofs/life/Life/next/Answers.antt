use Rattle.std.proofs.Common.{◌∙◌, ap, subst, sym}
use Rattle.store.specs.State.{store_state}
use Rattle.world.specs.declared.commit.LastCommit.TheVariants as commits
use Rattle.world.specs.declared.commit.Pipeline.{Pipeline}
use Rattle.world.specs.Commits.{alone}
use Rattle.world.specs.Course.{course_after}
use Rattle.world.specs.declared.step.Step.TheVariants as steps
use Rattle.world.specs.Follows.{FollowsLife}
use Rattle.world.proofs.Following.{next_idle}
use Rattle.world.proofs.Taking.{same_commits}
use Rattle.world.proofs.life.Life.next.Goals as goal

pub returns-in-Some-clause-course : goal.returns-in-Some-clause-course
returns-in-Some-clause-course g c origin course f =
    let state = g.D.Disk.state in
    let life = c.args.self.now in
    let gate = c.in-Some.ensures in
    let answer = c.follow-under_way.result.1 in
    let begun = alone (commits.UnderWay c.follow-under_way.result.0) in
    let found = c.follow-under_way.ensures.course origin course (subst (λ k. FollowsLife state origin course (record life { commits = k })) gate.0 f) in
    let same =
    same_commits c.set.new.self begun (c.set.ensures.ahead ∙ ap (λ (k : Pipeline). k.ahead) (c.follow-under_way.ensures.commits ∙ gate.1)) c.set.ensures.last in (
      found.0,
      subst (λ k. FollowsLife state origin (course_after origin course (steps.Next c.args.most) answer) (record c.follow-under_way.new.self { commits = k })) (sym same) found.1,
    )

pub returns-in-None-clause-course : goal.returns-in-None-clause-course
returns-in-None-clause-course g c origin course f =
    let state = g.D.Disk.state in
    let life = c.args.self.now in (
      next_idle origin course c.args.most (store_state state life.store) life.commits f.0.under_way c.in-None.ensures.none,
      subst (λ k. FollowsLife state origin course (record life { commits = k })) (sym c.in-None.ensures.same) f,
    )
