use Rattle.std.proofs.Common.{◌≡◌, ◌∙◌, IfOk, ap, subst, sym}
use Rattle.session_core.specs.declared.event.Event.{Event}
use Rattle.session_core.specs.declared.event.Event.TheVariants as events
use Rattle.world.specs.Answers.{IsAsked, IsOwnRight}
use Rattle.world.specs.Course.{step_if_room, after_command}
use Rattle.world_model.specs.Plain.{IsRefusal, at_course, own_after}
use Rattle.world_model.proofs.Turning.{both, each, is_asked, own_goes}
use Rattle.world_model.proofs.model.Plain.own.Goals as goal

pub returns-in-Ask-clause-right : goal.returns-in-Ask-clause-right
returns-in-Ask-clause-right c =
    let s = c.args.self.now in
    let command = c.in-Ask.command in
    subst (λ (event : Event). IfOk c.admit.result (λ refused. IsOwnRight s.origin s.course event refused)) (sym c.in-Ask.is)
    (each (IsRefusal (step_if_room s.origin s.course command)) (IsAsked s.origin s.course command) c.admit.result (is_asked s.origin s.course command) c.admit.ensures.refused)

pub returns-in-Ask-clause-course : goal.returns-in-Ask-clause-course
returns-in-Ask-clause-course c =
    let s = c.args.self.now in
    let command = c.in-Ask.command in
    let new = c.admit.new.self in
    let outcome = step_if_room s.origin s.course command in
    subst (λ (event : Event). IfOk c.admit.result (λ refused. new ≡ at_course s (own_after s.origin s.course event refused))) (sym c.in-Ask.is) (
    each (λ refused. IsRefusal outcome refused × (new ≡ at_course s (after_command s.course command outcome)))
    (λ refused. new ≡ at_course s (own_after s.origin s.course (events.Ask command) refused))
    c.admit.result
    (λ refused h. h.1 ∙ ap (at_course s) (own_goes s.origin s.course command refused h.0))
    (both (IsRefusal outcome) (λ _. new ≡ at_course s (after_command s.course command outcome)) c.admit.result c.admit.ensures.refused c.admit.ensures.course)
    )
