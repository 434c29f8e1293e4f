use Rattle.std.proofs.Common.{ℕ, sym, subst}
use Rattle.store.specs.State.{store_state}
use Rattle.session_core.specs.declared.event.Event.TheVariants as events
use Rattle.world.specs.declared.step.Step.TheVariants as steps
use Rattle.session_core.specs.declared.turn.Turn.{Turn}
use Rattle.world.specs.declared.answer.Answer.TheVariants as answers
use Rattle.world.specs.Answers.{AnswersOpen}
use Rattle.world.specs.Course.{course_after}
use Rattle.world.specs.Follows.{FollowsLife}
use Rattle.world.proofs.Listening.{does-tick}
use Rattle.world.proofs.life.Life.tick.Goals as goal

pub returns-clause-course : goal.returns-clause-course
returns-clause-course g c origin course f =
    let state = g.D.Disk.state in
    let life = c.args.self.now in
    let law = c.windows_stand_for_groups.ensures.ticked in
    subst (λ (told : Turn × ℕ). AnswersOpen origin course (steps.Event c.args.moment (events.Tick)) (answers.Turn told.0 told.1)
    × FollowsLife state origin (course_after origin course (steps.Event c.args.moment (events.Tick)) (answers.Turn told.0 told.1)) (record life { core = c.handle-turn.new.self })) (sym c.told.ensures)
    (does-tick c.of_runs.ensures origin (store_state state life.store) life.commits course c.args.moment life.core c.handle-turn.new.self life.links c.handle-turn.result f.0 f.1 c.handle-turn.ensures.lawful c.handle-turn.ensures.turn (law life.core c.handle-turn.new.self c.args.moment course.shut c.handle-turn.result course.arrivals c.handle-turn.ensures.turn))
