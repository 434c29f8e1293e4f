use Rattle.std.proofs.Common.{◌≡◌, ◌∙◌, inl, List, [], Err, length, ap, refl, subst, sym}
use Rattle.std.proofs.lemmas.Result.{IfOk-at_ok, MatchResult-at_ok, MatchResult-at_err}
use Rattle.lw_types.specs.declared.refusal.Refusal.TheVariants.{OutOfMemory}
use Rattle.sessions.specs.Decision.{IsLegalContinuation}
use Rattle.sessions.specs.declared.decision.Decision.{Decision}
use Rattle.session_core.specs.Core.{CoreState}
use Rattle.session_core.specs.Deciding.{after_taking}
use Rattle.store.specs.Pairing.{table_behind}
use Rattle.store.specs.Phases.{gate_written_sequel}
use Rattle.store.specs.State.{store_state}
use Rattle.store.specs.declared.under_way.UnderWay.TheVariants as ways
use Rattle.world.specs.declared.answer.Answer.{Answer}
use Rattle.world.specs.declared.answer.Answer.TheVariants as answers
use Rattle.world.specs.declared.commit.LastCommit.TheVariants as commits
use Rattle.world.specs.declared.step.Step.TheVariants as steps
use Rattle.world.specs.Answers.{AnswersNext}
use Rattle.world.specs.Commits.{alone, at_gate}
use Rattle.world.specs.Course.{course_after, after_take, after_give_up}
use Rattle.world.specs.Follows.{FollowsLife}
use Rattle.world.specs.Tells.{told_by}
use Rattle.world.proofs.Following.{answers_so, follows, follows_astray, follows_lost}
use Rattle.world.proofs.Listening.{listens-on}
use Rattle.world.proofs.Taking.{moved, some_wait, told_so, when_healthy}
use Rattle.world.proofs.life.Life.follow.Goals as goal

pub returns-then-not-roomy_next-clause-course : goal.returns-then-not-roomy_next-clause-course
returns-then-not-roomy_next-clause-course g c origin course f =
    let life = c.args.self.now in
    let core = life.core.decisions in
    let some = λ (none : core.log ≡ []). c.if-untaken-eq0.false (c.untaken.ensures.count ∙ ap (λ (ds : List Decision). length ds) none) in (
      answers_so c.of_runs.ensures origin course (store_state g.D.Disk.state life.store) core c.args.most c.args.opened c.args.along f.0 answers.Full
          (some_wait core.log course.untaken f.0.untaken some),
      f,
    )

pub returns-in-Err-clause-course : goal.returns-in-Err-clause-course
returns-in-Err-clause-course g c origin course f =
    let state = g.D.Disk.state in
    let life = c.args.self.now in
    let core = life.core.decisions in
    let begun = at_gate c.args.opened c.args.along in
    let some = λ (none : core.log ≡ []). c.if-untaken-eq0.false (c.untaken.ensures.count ∙ ap (λ (ds : List Decision). length ds) none) in
    let took = c.in-Err.ensures.taken in
    subst (λ e. AnswersNext course.flights course c.args.most (answers.Refused e)
    × FollowsLife state origin (course_after origin course (steps.Next c.args.most) (answers.Refused e)) (record life { core = c.next_batch.new.core; commits = begun })) (sym took.0) (
      answers_so c.of_runs.ensures origin course (store_state state life.store) core c.args.most c.args.opened c.args.along f.0 (answers.Refused OutOfMemory)
          (some_wait core.log course.untaken f.0.untaken some, inl refl),
      subst (λ k. FollowsLife state origin course (record life { core = k; commits = begun })) (sym took.1) f,
    )

pub returns-in-Ok-begun-clause-course : goal.returns-in-Ok-begun-clause-course
returns-in-Ok-begun-clause-course g c origin course f =
    let state = g.D.Disk.state in
    let life = c.args.self.now in
    let core = life.core.decisions in
    let s = store_state state life.store in
    let most = c.args.most in
    let count = c.len-count.result in
    let some = λ (none : core.log ≡ []). c.if-untaken-eq0.false (c.untaken.ensures.count ∙ ap (λ (ds : List Decision). length ds) none) in
    let took = c.in-Ok.ensures.taken in
    let following = c.in-Ok-begun.following in
    let is = c.in-Ok-begun.is in
    let e = c.begin_next-begun.ensures in
    let begun = alone (commits.UnderWay (ways.Following c.args.opened c.args.along following c.in-Ok.behind)) in
    let way = MatchResult-at_ok _ _ following is (when_healthy s.failed _ _ f.0.healthy e.answer) in
    let found =
    follows c.of_runs.ensures origin course s core most c.args.opened c.args.along f.0 c.in-Ok.ensures.lawful.decisions c.requires.way some following c.in-Ok.behind
    count (IfOk-at_ok _ is e.batch ∙ took.0) way.legal (IfOk-at_ok _ is e.begun) (c.len-count.ensures.len ∙ ap (λ (ds : List Decision). length ds) took.0) in
    let told = c.batch_answer-answer.ensures ∙ ap (λ r. told_by r count) is in
    subst (λ a. AnswersNext course.flights course most a
    × FollowsLife state origin (course_after origin course (steps.Next most) a) (record life { core = c.next_batch.new.core; commits = begun }))
    (sym told) (
      found.0,
      (
        moved origin (after_take course most) s s (after_taking core most) c.next_batch.new.core.decisions begun begun refl (ap (λ (k : CoreState). k.decisions) took.1) refl found.1,
        listens-on course (after_take course most) life.core c.next_batch.new.core life.links life.links refl refl refl refl (ap (λ (k : CoreState). k.clock) took.1) (ap (λ (k : CoreState). k.windows) took.1) refl f.1,
      ),
    )

pub returns-in-Err-begun-clause-course : goal.returns-in-Err-begun-clause-course
returns-in-Err-begun-clause-course g c origin course f =
    let state = g.D.Disk.state in
    let life = c.args.self.now in
    let core = life.core.decisions in
    let s = store_state state life.store in
    let most = c.args.most in
    let count = c.len-count.result in
    let refusal = c.in-Err-begun.field-0 in
    let some = λ (none : core.log ≡ []). c.if-untaken-eq0.false (c.untaken.ensures.count ∙ ap (λ (ds : List Decision). length ds) none) in
    let took = c.in-Ok.ensures.taken in
    let begun = at_gate c.args.opened c.args.along in
    let table = table_behind s c.args.opened in
    let number = (gate_written_sequel c.args.opened).seq in
    let told = c.batch_answer-answer.ensures ∙ ap (λ r. told_by r count) c.in-Err-begun.is in
    let heard =
    listens-on course (after_give_up course most) life.core c.next_batch.new.core life.links life.links refl refl refl refl (ap (λ (k : CoreState). k.clock) took.1) (ap (λ (k : CoreState). k.windows) took.1) refl f.1 in
    let goes_on =
    moved origin (after_give_up course most) s s (after_taking core most) c.next_batch.new.core.decisions begun begun refl (ap (λ (k : CoreState). k.decisions) took.1) refl in
    let right = λ (a : Answer). AnswersNext course.flights course most a
    × FollowsLife state origin (course_after origin course (steps.Next most) a) (record life { core = c.next_batch.new.core; commits = begun }) in
    subst right (sym told)
    (told_so refusal count right
    (λ memory.
    let legal = subst (IsLegalContinuation table number) took.0 (c.begin_next-begun.ensures.memory (c.in-Err-begun.is ∙ ap Err memory)) in
    let found =
    follows_lost c.of_runs.ensures origin course s core most c.args.opened c.args.along f.0 c.in-Ok.ensures.lawful.decisions c.requires.way some count legal
    (c.len-count.ensures.len ∙ ap (λ (ds : List Decision). length ds) took.0) in
    (found.0, (goes_on found.1, heard)))
    (λ other.
    let out_of_step = MatchResult-at_err _ _ refusal c.in-Err-begun.is (when_healthy s.failed _ _ f.0.healthy c.begin_next-begun.ensures.answer) other in
    let found =
    follows_astray c.of_runs.ensures origin course s core most c.args.opened c.args.along f.0 c.in-Ok.ensures.lawful.decisions c.requires.way some c.in-Ok.ensures.asked
    (λ legal. out_of_step.1 (subst (IsLegalContinuation table number) (sym took.0) legal)) in
    (out_of_step.0, (found.0, (goes_on found.1, heard)))))
