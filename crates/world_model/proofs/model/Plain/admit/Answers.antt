use Rattle.std.proofs.Common.{◌≡◌, ◌∙◌, ◌+◌, ◌++◌, ◌∷◌, [], List, ℕ, None, Some, rules, ap, subst, sym}
use Rattle.devices.specs.declared.command.Command.{Command}
use Rattle.world.specs.Course.{Course, step_if_room}
use Rattle.world_model.specs.Plain.{PlainState, IsRefusal, at_course}
use Rattle.world_model.proofs.Turning.{goes_on, stays}
use Rattle.world_model.proofs.model.Plain.admit.Goals as goal

landed : (v s : PlainState) (command : Command) (u : List Command) (m : ℕ) → v ≡ s → u ≡ v.course.untaken ++ command ∷ [] → m ≡ v.course.made + 1
    → (k : Course) → k ≡ record s.course { untaken = s.course.untaken ++ command ∷ []; made = s.course.made + 1 }
    → record v { course = record v.course { untaken = u; made = m } } ≡ at_course s k
landed v s command u m is more next k last =
    ap (λ l. record v { course = record v.course { untaken = l; made = m } }) more
    ∙ (ap (λ n. record v { course = record v.course { untaken = v.course.untaken ++ command ∷ []; made = n } }) next
    ∙ (ap (λ (w : PlainState). record w { course = record w.course { untaken = w.course.untaken ++ command ∷ []; made = w.course.made + 1 } }) is
    ∙ ap (at_course s) (sym last)))

pub returns-in_ok-self-inside-in-None-clause-course : goal.returns-in_ok-self-inside-in-None-clause-course
returns-in_ok-self-inside-in-None-clause-course c =
    let s = c.args.self.now in
    let command = c.args.command.now in
    let outcome = step_if_room s.origin s.course command in
    let why : IsRefusal outcome None = subst (IsRefusal outcome) c.in-None.is c.in_ok-why_not.ensures in
    let untaken : c.push.new.self.items ≡ c.self.inside.untaken.items ++ command ∷ [] = search (rules) in
    let next : c.in_ok-self-inside-in-None.field-0 ≡ c.self.inside.made + 1 = search (rules) in
    landed _ s command _ _ c.self.view_is untaken next _ (goes_on s.course command outcome why)

pub returns-in-Some-clause-course : goal.returns-in-Some-clause-course
returns-in-Some-clause-course c =
    let s = c.args.self.now in
    let command = c.args.command.now in
    let outcome = step_if_room s.origin s.course command in
    let why : IsRefusal outcome (Some c.in-Some.refusal) = subst (IsRefusal outcome) c.in-Some.is c.in_ok-why_not.ensures in
    ap (at_course s) (sym (stays s.course command outcome c.in-Some.refusal why))
