use Rattle.std.proofs.Common.{◌∙◌, List, Err, length, ap, refl, subst, sym}
use Rattle.std.proofs.lemmas.Result.{IfOk-at_ok, MatchResult-at_ok, MatchResult-at_err}
use Rattle.sessions.specs.Decision.{IsLegalContinuation}
use Rattle.sessions.specs.declared.decision.Decision.{Decision}
use Rattle.session_core.specs.Deciding.{after_taking}
use Rattle.store.specs.State.{store_state}
use Rattle.store.specs.declared.under_way.UnderWay.TheVariants as ways
use Rattle.world.specs.declared.commit.LastCommit.TheVariants as commits
use Rattle.world.specs.declared.answer.Answer.{Answer}
use Rattle.world.specs.declared.step.Step.TheVariants as steps
use Rattle.world.specs.Answers.{AnswersTake}
use Rattle.world.specs.Commits.{at_rest}
use Rattle.world.specs.Course.{course_after, after_take, after_give_up}
use Rattle.world.specs.Follows.{IsLife, IsListening}
use Rattle.world.specs.Tells.{told_by}
use Rattle.session_core.specs.Core.{CoreState}
use Rattle.world.proofs.Listening.{listens-on}
use Rattle.world.specs.declared.commit.Pipeline.{Pipeline}
use Rattle.world.proofs.Taking.{same_commits, when_healthy, takes, loses, strays, moved, told_so}
use Rattle.world.proofs.life.Life.begin.Goals as goal

pub returns-in-Ok-clause-course : goal.returns-in-Ok-clause-course
returns-in-Ok-clause-course g c origin course f =
    let life = c.args.self.now in
    let s = store_state g.D.Disk.state life.store in
    let most = c.args.most in
    let count = c.len-count.result in
    let idle = subst (λ k. IsLife origin course s life.core.decisions k) c.requires.idle f.0 in
    let took = c.in_ok-batch.ensures.taken in
    let commits_are = same_commits c.set.new.self (record at_rest { last = commits.UnderWay (ways.Begun c.in-Ok.begun c.in_ok-batch.room) })
    (c.set.ensures.ahead ∙ ap (λ (k : Pipeline). k.ahead) c.requires.idle) c.set.ensures.last in
    let is = c.in-Ok.is in
    let e = c.begin-begun.ensures in
    let way = MatchResult-at_ok _ _ c.in-Ok.begun is (when_healthy s.failed _ _ idle.healthy e.answer) in
    let found =
    takes c.of_runs.ensures origin course s life.core.decisions c.in_ok-batch.ensures.lawful.decisions most idle c.requires.some c.in-Ok.begun c.in_ok-batch.room count
    (IfOk-at_ok _ is e.batch ∙ took.0) way.legal (IfOk-at_ok _ is (e.begun idle.under_way.last.1.1.0))
    (c.len-count.ensures.len ∙ ap (λ (ds : List Decision). length ds) took.0) in
    let told = c.batch_answer-answer.ensures ∙ ap (λ r. told_by r count) is in
    subst (λ a. AnswersTake course.flights course most a
    × (IsLife origin (course_after origin course (steps.Take most) a) (store_state g.D.Disk.state c.begin-begun.new.self) c.next_batch.new.core.decisions c.set.new.self
    × IsListening (course_after origin course (steps.Take most) a) c.next_batch.new.core life.links))
    (sym told) (
      found.0,
      (
        moved origin (after_take course most) s (store_state g.D.Disk.state c.begin-begun.new.self) (after_taking life.core.decisions most) c.next_batch.new.core.decisions
            (record at_rest { last = commits.UnderWay (ways.Begun c.in-Ok.begun c.in_ok-batch.room) }) c.set.new.self
            e.same (ap (λ (k : CoreState). k.decisions) took.1) commits_are found.1,
        listens-on course (after_take course most) life.core c.next_batch.new.core life.links life.links refl refl refl refl (ap (λ (k : CoreState). k.clock) took.1) (ap (λ (k : CoreState). k.windows) took.1) refl f.1,
      ),
    )

pub returns-in-Err-clause-course : goal.returns-in-Err-clause-course
returns-in-Err-clause-course g c origin course f =
    let life = c.args.self.now in
    let s = store_state g.D.Disk.state life.store in
    let most = c.args.most in
    let count = c.len-count.result in
    let refusal = c.in-Err.field-0 in
    let idle = subst (λ k. IsLife origin course s life.core.decisions k) c.requires.idle f.0 in
    let took = c.in_ok-batch.ensures.taken in
    let told = c.batch_answer-answer.ensures ∙ ap (λ r. told_by r count) c.in-Err.is in
    let heard =
    listens-on course (after_give_up course most) life.core c.next_batch.new.core life.links life.links refl refl refl refl (ap (λ (k : CoreState). k.clock) took.1) (ap (λ (k : CoreState). k.windows) took.1) refl f.1 in
    let goes_on =
    moved origin (after_give_up course most) s (store_state g.D.Disk.state c.begin-begun.new.self) (after_taking life.core.decisions most) c.next_batch.new.core.decisions at_rest life.commits
    c.begin-begun.ensures.same (ap (λ (k : CoreState). k.decisions) took.1) c.requires.idle in
    let right = λ (a : Answer). AnswersTake course.flights course most a
    × (IsLife origin (course_after origin course (steps.Take most) a) (store_state g.D.Disk.state c.begin-begun.new.self) c.next_batch.new.core.decisions life.commits
    × IsListening (course_after origin course (steps.Take most) a) c.next_batch.new.core life.links) in
    subst right (sym told)
    (told_so refusal count right
    (λ memory.
    let legal = subst (IsLegalContinuation s.table s.seq) took.0 (c.begin-begun.ensures.memory (c.in-Err.is ∙ ap Err memory)) in
    let found =
    loses c.of_runs.ensures origin course s life.core.decisions c.in_ok-batch.ensures.lawful.decisions most idle c.requires.some count legal
    (c.len-count.ensures.len ∙ ap (λ (ds : List Decision). length ds) took.0) in
    (found.0, (goes_on found.1, heard)))
    (λ other.
    let out_of_step = MatchResult-at_err _ _ refusal c.in-Err.is (when_healthy s.failed _ _ idle.healthy c.begin-begun.ensures.answer) other in
    let found =
    strays c.of_runs.ensures origin course s life.core.decisions c.in_ok-batch.ensures.lawful.decisions most idle c.requires.some c.in_ok-batch.ensures.asked
    (λ legal. out_of_step.1 (subst (IsLegalContinuation s.table s.seq) (sym took.0) legal)) in
    (out_of_step.0, (found.0, (goes_on found.1, heard)))))
