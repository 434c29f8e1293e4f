use Rattle.std.proofs.Common.{◌≡◌, ◌+◌, ◌∙◌, List, ◌∷◌, ◌++◌, [], Ok, Bool, true, sym, ap, subst}
use Rattle.std.specs.Result.{IsErrAnd}
use Rattle.sessions.specs.Table.{TableState}
use Rattle.sessions.specs.Decision.{AnswersTo, Decides, FitsTable, with_decision, without_decisions}
use Rattle.sessions.specs.declared.decision.Decision.{Decision}
use Rattle.session_core.specs.State.{DecisionsState, IsLawful, now_of, last_number}
use Rattle.session_core.specs.Deciding.{Makes, has_room, step_if_room}
use Rattle.session_core.specs.Kept.{kept_state}
use Rattle.session_core.proofs.Lawful.{full-there, not-kept, refused-there, room-few, step-made, lawful-made, now-made, state-made, decided-made, decided}
use Rattle.session_core.proofs.decisions.Decisions.keep.Goals as goal

room_is : {a b found : Bool} → a ≡ b → found ≡ b → found ≡ true → a ≡ true
room_is same is held = same ∙ (sym is ∙ held)

pub invariant_of-self-2 : goal.invariant_of-self-2
invariant_of-self-2 c =
    let s = kept_state c.self.inside in
    let d = c.in_ok-decision.decision in
    let log : c.push_back_reserved.new.self.items ≡ s.log ++ d ∷ [] = c.push_back_reserved.ensures.items ∙ ap (λ (l : List Decision). l ++ d ∷ []) c.reserve.ensures.items in
    let table : c.apply.new.self ≡ with_decision (now_of s) d = c.in_ok-apply.ensures ∙ ap (λ (t : TableState). with_decision t d) c.self.invariant.table in
    let roomy : has_room s ≡ true = room_is (ap has_room c.self.view_is) c.has_room.ensures.room c.if-not-has_room.false in
    let room = room-few s roomy in
    let number = c.seq.ensures.number ∙ ap last_number (sym c.self.view_is) in
    let made : Decides (now_of s) (last_number s + 1) c.args.command (Ok d) =
    subst (λ (t : TableState). Decides t (last_number s + 1) c.args.command (Ok d)) c.self.invariant.table
    (subst (λ n. Decides c.self.inside.table (n + 1) c.args.command (Ok d)) number c.in_ok-decision.ensures.decides) in
    let fits : FitsTable (now_of s) d = subst (λ (t : TableState). FitsTable t d) c.self.invariant.table c.in_ok-decision.ensures.fits in
    let lawful =
    lawful-made c.joining.ensures.continues c.joining.ensures.table c.taking_back.ensures s d c.self.invariant.lawful room.0 room.1 fits
    (step-made (now_of s) (last_number s + 1) c.args.command d made).2.number in
    let same =
    state-made c.joining.ensures.continues c.joining.ensures.table c.taking_back.ensures s d c.apply.new.self c.push_back_reserved.new.self.items lawful table log in
    record {
      lawful = subst IsLawful (sym same) lawful;
      table = table ∙ (sym (now-made c.joining.ensures.continues c.joining.ensures.table c.taking_back.ensures s d) ∙ ap now_of (sym same));
    }

pub returns-clause-lawful : goal.returns-clause-lawful
returns-clause-lawful c =
    let s = kept_state c.self.inside in
    let d = c.in_ok-decision.decision in
    let log : c.push_back_reserved.new.self.items ≡ s.log ++ d ∷ [] = c.push_back_reserved.ensures.items ∙ ap (λ (l : List Decision). l ++ d ∷ []) c.reserve.ensures.items in
    let table : c.apply.new.self ≡ with_decision (now_of s) d = c.in_ok-apply.ensures ∙ ap (λ (t : TableState). with_decision t d) c.self.invariant.table in
    let roomy : has_room s ≡ true = room_is (ap has_room c.self.view_is) c.has_room.ensures.room c.if-not-has_room.false in
    let room = room-few s roomy in
    let number = c.seq.ensures.number ∙ ap last_number (sym c.self.view_is) in
    let made : Decides (now_of s) (last_number s + 1) c.args.command (Ok d) =
    subst (λ (t : TableState). Decides t (last_number s + 1) c.args.command (Ok d)) c.self.invariant.table
    (subst (λ n. Decides c.self.inside.table (n + 1) c.args.command (Ok d)) number c.in_ok-decision.ensures.decides) in
    let fits : FitsTable (now_of s) d = subst (λ (t : TableState). FitsTable t d) c.self.invariant.table c.in_ok-decision.ensures.fits in
    let lawful =
    lawful-made c.joining.ensures.continues c.joining.ensures.table c.taking_back.ensures s d c.self.invariant.lawful room.0 room.1 fits
    (step-made (now_of s) (last_number s + 1) c.args.command d made).2.number in
    let same =
    state-made c.joining.ensures.continues c.joining.ensures.table c.taking_back.ensures s d c.apply.new.self c.push_back_reserved.new.self.items lawful table log in
    subst IsLawful (sym same) lawful

pub returns-clause-made : goal.returns-clause-made
returns-clause-made c =
    let s = kept_state c.self.inside in
    let d = c.in_ok-decision.decision in
    let log : c.push_back_reserved.new.self.items ≡ s.log ++ d ∷ [] = c.push_back_reserved.ensures.items ∙ ap (λ (l : List Decision). l ++ d ∷ []) c.reserve.ensures.items in
    let table : c.apply.new.self ≡ with_decision (now_of s) d = c.in_ok-apply.ensures ∙ ap (λ (t : TableState). with_decision t d) c.self.invariant.table in
    let roomy : has_room s ≡ true = room_is (ap has_room c.self.view_is) c.has_room.ensures.room c.if-not-has_room.false in
    let room = room-few s roomy in
    let number = c.seq.ensures.number ∙ ap last_number (sym c.self.view_is) in
    let made : Decides (now_of s) (last_number s + 1) c.args.command (Ok d) =
    subst (λ (t : TableState). Decides t (last_number s + 1) c.args.command (Ok d)) c.self.invariant.table
    (subst (λ n. Decides c.self.inside.table (n + 1) c.args.command (Ok d)) number c.in_ok-decision.ensures.decides) in
    let fits : FitsTable (now_of s) d = subst (λ (t : TableState). FitsTable t d) c.self.invariant.table c.in_ok-decision.ensures.fits in
    let lawful =
    lawful-made c.joining.ensures.continues c.joining.ensures.table c.taking_back.ensures s d c.self.invariant.lawful room.0 room.1 fits
    (step-made (now_of s) (last_number s + 1) c.args.command d made).2.number in
    let same =
    state-made c.joining.ensures.continues c.joining.ensures.table c.taking_back.ensures s d c.apply.new.self c.push_back_reserved.new.self.items lawful table log in
    let new : DecisionsState = record s { base = without_decisions c.apply.new.self c.push_back_reserved.new.self.items; made = s.made + 1; log = c.push_back_reserved.new.self.items } in
    subst (λ (old : DecisionsState). AnswersTo c.args.command (step_if_room old c.args.command) (λ st _. Makes old c.args.command st new) decided) c.self.view_is
    (decided-made s c.args.command d roomy made new same)

pub returns-in_err-decision-clause-made : goal.returns-in_err-decision-clause-made
returns-in_err-decision-clause-made c =
    refused-there c.args.self.now c.self.inside.table c.args.command (c.self.invariant.table ∙ ap now_of c.self.view_is) (sym c.has_room.ensures.room ∙ c.if-not-has_room.false)
    (c.seq.result + 1) _ c.in_err-decision.field-0.0 c.from_residual.result c.from_residual.ensures.1 c.in_err-decision.ensures.decides

pub returns-in_err-reserve-clause-made : goal.returns-in_err-reserve-clause-made
returns-in_err-reserve-clause-made c =
    not-kept c.args.self.now c.self.inside.table c.args.command (c.self.invariant.table ∙ ap now_of c.self.view_is) (sym c.has_room.ensures.room ∙ c.if-not-has_room.false)
    (c.seq.result + 1) _ c.in_ok-decision.decision c.from_residual-in_err-reserve.result c.from_residual-in_err-reserve.ensures.1 c.in_ok-decision.ensures.decides

pub returns-in_err-apply-clause-made : goal.returns-in_err-apply-clause-made
returns-in_err-apply-clause-made c =
    not-kept c.args.self.now c.self.inside.table c.args.command (c.self.invariant.table ∙ ap now_of c.self.view_is) (sym c.has_room.ensures.room ∙ c.if-not-has_room.false)
    (c.seq.result + 1) _ c.in_ok-decision.decision c.from_residual-in_err-apply.result (subst (λ e. IsErrAnd c.from_residual-in_err-apply.result (λ x. x ≡ e)) c.in_err-apply.ensures.0 c.from_residual-in_err-apply.ensures.1) c.in_ok-decision.ensures.decides

pub returns-then-not-has_room-clause-made : goal.returns-then-not-has_room-clause-made
returns-then-not-has_room-clause-made c =
    full-there c.args.self.now c.args.command (λ st _. Makes c.args.self.now c.args.command st (kept_state c.self.inside)) (sym c.has_room.ensures.room ∙ c.if-not-has_room.true)
