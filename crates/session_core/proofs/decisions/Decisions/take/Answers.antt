use Rattle.std.proofs.Common.{◌≡◌, ◌≤◌, ◌∙◌, min, length, take, sym, ap, subst, arith}
use Rattle.std.proofs.lemmas.List.{take_min}
use Rattle.session_core.specs.State.{DecisionsState, IsLawful, now_of}
use Rattle.session_core.specs.Deciding.{after_taking}
use Rattle.session_core.specs.Kept.{kept_state}
use Rattle.session_core.proofs.Lawful.{lawful-taken, now-taken, state-taken, taken-min}
use Rattle.session_core.proofs.decisions.Decisions.take.Goals as goal

pub invariant_of-self : goal.invariant_of-self
invariant_of-self c =
    let s = kept_state c.self.inside in
    let n = c.min-count.result in
    let within : n ≤ length s.log = omega (arith, c.self.inside.log.ok.0) in
    let same =
    state-taken c.joining.ensures.continues c.joining.ensures.table c.taking_back.ensures s n c.self.inside.table c.move_front.new.log.items
    c.self.invariant.lawful within c.self.invariant.table c.move_front.ensures.left in
    record {
      lawful = subst IsLawful (sym same) (lawful-taken c.joining.ensures.continues c.joining.ensures.table c.taking_back.ensures s n c.self.invariant.lawful);
      table = c.self.invariant.table ∙ (sym (now-taken c.joining.ensures.continues c.joining.ensures.table c.taking_back.ensures s n) ∙ ap now_of (sym same));
    }

pub returns-clause-taken : goal.returns-clause-taken
returns-clause-taken c =
    let s = kept_state c.self.inside in
    let n = c.min-count.result in
    let most = c.args.max in
    let within : n ≤ length s.log = omega (arith, c.self.inside.log.ok.0) in
    let least : n ≡ min most (length s.log) = omega (arith, c.self.inside.log.ok.0) in
    let same =
    state-taken c.joining.ensures.continues c.joining.ensures.table c.taking_back.ensures s n c.self.inside.table c.move_front.new.log.items
    c.self.invariant.lawful within c.self.invariant.table c.move_front.ensures.left in (
      c.move_front.ensures.moved ∙ (ap (λ k. take k s.log) least ∙ (take_min most s.log ∙ ap (λ (old : DecisionsState). take most old.log) c.self.view_is)),
      same ∙ (taken-min s n most least ∙ ap (λ (old : DecisionsState). after_taking old most) c.self.view_is),
    )
