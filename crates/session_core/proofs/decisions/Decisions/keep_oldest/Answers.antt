use Rattle.std.proofs.Common.{◌≡◌, ◌+◌, ◌∙◌, ◌∷◌, ◌++◌, [], List, true, Err, refl, sym, ap, subst}
use Rattle.std.proofs.lemmas.Option.{MatchOption-at_some}
use Rattle.std.specs.Result.{IsErrAnd}
use Rattle.lw_types.specs.declared.refusal.Refusal.TheVariants.{OutOfMemory}
use Rattle.devices.specs.declared.command.Command.TheVariants as commands
use Rattle.devices.specs.declared.heard.Heard.{Heard}
use Rattle.dedup.specs.Windows.{IsOldestDue, NoneDue, heard_now}
use Rattle.sessions.specs.HeardStep.{Becomes, heard_decision}
use Rattle.sessions.specs.declared.decision.Decision.{Decision}
use Rattle.sessions.specs.Decision.{without_decisions}
use Rattle.session_core.specs.State.{DecisionsState, last_number, now_of}
use Rattle.session_core.specs.Deciding.{Makes, has_room}
use Rattle.session_core.specs.Kept.{kept_state}
use Rattle.session_core.specs.Observing.{DecidesOldest}
use Rattle.session_core.proofs.Lawful.{not-kept, refused-there}
use Rattle.session_core.proofs.Oldest.{decided_frame, decides-oldest, keeps-err, kept_with, made-of, one-oldest, there-is}
use Rattle.session_core.proofs.decisions.Decisions.keep_oldest.Goals as goal

pub returns-in_err-step : goal.returns-in_err-step
returns-in_err-step c =
    let s = c.args.self.now in
    let h = heard_now c.in-Some.phy_payload.now c.in-Some.hearings.now in
    let e = c.in_err-step.field-0.0 in
    let room = sym c.has_room.ensures.room ∙ c.if-not-has_room.false in
    keeps-err c.args.now s s c.args.windows.now _ h e c.from_residual.result c.from_residual.ensures.1 c.in-Some.ensures c.has_room.ensures.lawful room
    (refused-there s c.self.inside.table (commands.Heard h) (c.self.invariant.table ∙ ap now_of c.self.view_is) room (c.seq-number.result + 1)
    (λ st _. Makes s (commands.Heard h) st s) e (Err e) refl c.in_err-step.ensures.steps) refl

pub returns-in_err-record : goal.returns-in_err-record
returns-in_err-record c =
    let s = c.args.self.now in
    let h = heard_now c.in-Some.phy_payload.now c.in-Some.hearings.now in
    let room = sym c.has_room.ensures.room ∙ c.if-not-has_room.false in
    let becomes = c.in_ok-step.ensures.steps in
    keeps-err c.args.now s s c.args.windows.now _ h OutOfMemory c.from_residual-in_err-record.result
    (subst (λ e. IsErrAnd c.from_residual-in_err-record.result (λ x. x ≡ e)) c.in_err-record.ensures c.from_residual-in_err-record.ensures.1)
    c.in-Some.ensures c.has_room.ensures.lawful room
    (not-kept s c.self.inside.table (commands.Heard h) (c.self.invariant.table ∙ ap now_of c.self.view_is) room (c.seq-number.result + 1)
    (λ st _. Makes s (commands.Heard h) st s) (heard_decision c.in_ok-step.step h becomes.0) (Err OutOfMemory) refl becomes.1.0) refl

pub returns-in_err-reserve : goal.returns-in_err-reserve
returns-in_err-reserve c =
    let s = c.args.self.now in
    let h = heard_now c.in-Some.phy_payload.now c.in-Some.hearings.now in
    let room = sym c.has_room.ensures.room ∙ c.if-not-has_room.false in
    let becomes = c.in_ok-step.ensures.steps in
    let with_log : List Decision → DecisionsState = λ l. record (kept_state c.self.inside) { base = without_decisions c.self.inside.table l; log = l } in
    keeps-err c.args.now s _ c.args.windows.now _ h OutOfMemory c.from_residual-in_err-reserve.result c.from_residual-in_err-reserve.ensures.1
    c.in-Some.ensures c.has_room.ensures.lawful room
    (not-kept s c.self.inside.table (commands.Heard h) (c.self.invariant.table ∙ ap now_of c.self.view_is) room (c.seq-number.result + 1)
    (λ st _. Makes s (commands.Heard h) st s) (heard_decision c.in_ok-step.step h becomes.0) (Err OutOfMemory) refl becomes.1.0)
    (ap with_log c.reserve.ensures.items ∙ c.self.view_is)

pub unwrap-heard-requires : goal.unwrap-heard-requires
unwrap-heard-requires c =
    there-is c.args.now c.args.windows.now _ c.close.new.self (heard_now c.in-Some.phy_payload.now c.in-Some.hearings.now) c.close.result c.in-Some.ensures c.close.ensures

pub apply_copy-requires-clause-fits : goal.apply_copy-requires-clause-fits
apply_copy-requires-clause-fits c =
    let h = heard_now c.in-Some.phy_payload.now c.in-Some.hearings.now in
    let heard = c.unwrap-heard.result in
    let closed = MatchOption-at_some ((c.close.new.self ≡ c.args.windows.now) × NoneDue c.args.now c.args.windows.now)
    (λ (x : Heard). IsOldestDue c.args.now c.args.windows.now x c.close.new.self) heard c.unwrap-heard.ensures c.close.ensures in
    let same = one-oldest c.args.now c.args.windows.now _ c.close.new.self h heard c.in-Some.ensures closed in
    (made-of c.self.inside.table (c.seq-number.result + 1) h heard c.in_ok-step.step c.into_decision-decision.result c.in_ok-step.ensures.steps same
    c.into_decision-decision.ensures).1.0

pub apply_copy-requires-clause-copy : goal.apply_copy-requires-clause-copy
apply_copy-requires-clause-copy c =
    let h = heard_now c.in-Some.phy_payload.now c.in-Some.hearings.now in
    let heard = c.unwrap-heard.result in
    let closed = MatchOption-at_some ((c.close.new.self ≡ c.args.windows.now) × NoneDue c.args.now c.args.windows.now)
    (λ (x : Heard). IsOldestDue c.args.now c.args.windows.now x c.close.new.self) heard c.unwrap-heard.ensures c.close.ensures in
    let same = one-oldest c.args.now c.args.windows.now _ c.close.new.self h heard c.in-Some.ensures closed in
    c.in_ok-record.ensures ∙ sym (made-of c.self.inside.table (c.seq-number.result + 1) h heard c.in_ok-step.step c.into_decision-decision.result c.in_ok-step.ensures.steps same
    c.into_decision-decision.ensures).1.1.1

pub invariant_of-self-2 : goal.invariant_of-self-2
invariant_of-self-2 c =
    let s = kept_state c.self.inside in
    let d = c.into_decision-decision.result in
    let h = heard_now c.in-Some.phy_payload.now c.in-Some.hearings.now in
    let heard = c.unwrap-heard.result in
    let closed = MatchOption-at_some ((c.close.new.self ≡ c.args.windows.now) × NoneDue c.args.now c.args.windows.now)
    (λ (x : Heard). IsOldestDue c.args.now c.args.windows.now x c.close.new.self) heard c.unwrap-heard.ensures c.close.ensures in
    let room : has_room s ≡ true = ap has_room c.self.view_is ∙ (sym c.has_room.ensures.room ∙ c.if-not-has_room.false) in
    let number = c.seq-number.ensures.number ∙ ap last_number (sym c.self.view_is) in
    let becomes = subst (λ n. Becomes c.self.inside.table (n + 1) h c.in_ok-step.step) number c.in_ok-step.ensures.steps in
    let log : c.push_back_reserved.new.self.items ≡ s.log ++ d ∷ [] = c.push_back_reserved.ensures.items ∙ ap (λ (l : List Decision). l ++ d ∷ []) c.reserve.ensures.items in
    let made = decides-oldest c.joining.ensures.continues c.joining.ensures.table c.taking_back.ensures s c.self.inside.table c.apply_copy.new.self
    c.push_back_reserved.new.self.items c.args.now c.args.windows.now _ c.close.new.self h heard c.in_ok-step.step d c.best.result c.self.invariant.lawful
    c.self.invariant.table room c.in-Some.ensures closed becomes c.into_decision-decision.ensures c.best.ensures.best c.in_ok-step.ensures.request c.apply_copy.ensures log in
    record { lawful = made.0.kept.lawful; table = made.1 }

pub returns : goal.returns
returns c =
    let s = kept_state c.self.inside in
    let d = c.into_decision-decision.result in
    let h = heard_now c.in-Some.phy_payload.now c.in-Some.hearings.now in
    let heard = c.unwrap-heard.result in
    let closed = MatchOption-at_some ((c.close.new.self ≡ c.args.windows.now) × NoneDue c.args.now c.args.windows.now)
    (λ (x : Heard). IsOldestDue c.args.now c.args.windows.now x c.close.new.self) heard c.unwrap-heard.ensures c.close.ensures in
    let room : has_room s ≡ true = ap has_room c.self.view_is ∙ (sym c.has_room.ensures.room ∙ c.if-not-has_room.false) in
    let number = c.seq-number.ensures.number ∙ ap last_number (sym c.self.view_is) in
    let becomes = subst (λ n. Becomes c.self.inside.table (n + 1) h c.in_ok-step.step) number c.in_ok-step.ensures.steps in
    let log : c.push_back_reserved.new.self.items ≡ s.log ++ d ∷ [] = c.push_back_reserved.ensures.items ∙ ap (λ (l : List Decision). l ++ d ∷ []) c.reserve.ensures.items in
    let made = decides-oldest c.joining.ensures.continues c.joining.ensures.table c.taking_back.ensures s c.self.inside.table c.apply_copy.new.self
    c.push_back_reserved.new.self.items c.args.now c.args.windows.now _ c.close.new.self h heard c.in_ok-step.step d c.best.result c.self.invariant.lawful
    c.self.invariant.table room c.in-Some.ensures closed becomes c.into_decision-decision.ensures c.best.ensures.best c.in_ok-step.ensures.request c.apply_copy.ensures log in
    subst (λ (old : DecisionsState). DecidesOldest c.args.now old c.args.windows.now (decided_frame c.in_ok-step.step c.best.result)
    (kept_with s c.apply_copy.new.self c.push_back_reserved.new.self.items) c.close.new.self) c.self.view_is made.0
