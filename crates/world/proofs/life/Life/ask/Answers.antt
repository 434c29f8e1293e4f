use Rattle.std.proofs.Common.{ℕ, sym, subst}
use Rattle.session_core.specs.Events.{Asks, IsTurn as IsCoreTurn}
use Rattle.store.specs.State.{store_state}
use Rattle.session_core.specs.declared.event.Event.TheVariants as events
use Rattle.world.specs.declared.step.Step.TheVariants as steps
use Rattle.session_core.specs.declared.turn.Turn.{Turn}
use Rattle.world.specs.declared.answer.Answer.TheVariants as answers
use Rattle.world.specs.Answers.{AnswersOpen}
use Rattle.world.specs.Course.{course_after}
use Rattle.world.specs.Follows.{FollowsLife}
use Rattle.world.proofs.Listening.{does-ask}
use Rattle.world.proofs.life.Life.ask.Goals as goal

pub returns-in-Ok-clause-course : goal.returns-in-Ok-clause-course
returns-in-Ok-clause-course g c origin course f =
    let state = g.D.Disk.state in
    let life = c.args.self.now in
    let law = c.windows_stand_for_groups.ensures.asked in
    subst (λ (told : Turn × ℕ). AnswersOpen origin course (steps.Event c.args.moment (events.Ask c.args.command.now)) (answers.Turn told.0 told.1)
    × FollowsLife state origin (course_after origin course (steps.Event c.args.moment (events.Ask c.args.command.now)) (answers.Turn told.0 told.1)) (record life { core = c.handle-turn.new.self })) (sym c.told.ensures)
    (does-ask c.of_runs.ensures origin (store_state state life.store) life.commits course c.args.moment life.core c.handle-turn.new.self life.links c.handle-turn.result f.0 f.1 c.handle-turn.ensures.lawful c.args.command.now (subst (λ command. IsCoreTurn life.core c.args.moment (Asks command) c.handle-turn.result c.handle-turn.new.self) c.in-Ok.ensures c.handle-turn.ensures.turn) (law c.args.command.now life.core c.handle-turn.new.self c.args.moment course.shut c.handle-turn.result course.arrivals (subst (λ command. IsCoreTurn life.core c.args.moment (Asks command) c.handle-turn.result c.handle-turn.new.self) c.in-Ok.ensures c.handle-turn.ensures.turn)))

pub returns-in-Err-clause-course : goal.returns-in-Err-clause-course
returns-in-Err-clause-course g c origin course f =
    let state = g.D.Disk.state in
    let life = c.args.self.now in
    let law = c.windows_stand_for_groups.ensures.asked in
    subst (λ (told : Turn × ℕ). AnswersOpen origin course (steps.Event c.args.moment (events.Ask c.args.command.now)) (answers.Turn told.0 told.1)
    × FollowsLife state origin (course_after origin course (steps.Event c.args.moment (events.Ask c.args.command.now)) (answers.Turn told.0 told.1)) (record life { core = c.decide_without_memory-turn.new.self })) (sym c.told-in-Err.ensures)
    (does-ask c.of_runs.ensures origin (store_state state life.store) life.commits course c.args.moment life.core c.decide_without_memory-turn.new.self life.links c.decide_without_memory-turn.result f.0 f.1 c.decide_without_memory-turn.ensures.lawful c.args.command.now c.decide_without_memory-turn.ensures.turn (law c.args.command.now life.core c.decide_without_memory-turn.new.self c.args.moment course.shut c.decide_without_memory-turn.result course.arrivals c.decide_without_memory-turn.ensures.turn))
