use Rattle.std.proofs.Common.{◌≡◌, ◌∙◌, ℕ, Result, Ok, Err, refl, sym, ap, subst}
use Rattle.std.specs.Result.{IsErrAnd}
use Rattle.std.proofs.lemmas.Result.{err_from_is_err_and}
use Rattle.lw_types.specs.declared.refusal.Refusal.{Refusal}
use Rattle.devices.specs.declared.command.Command.TheVariants as command
use Rattle.devices.specs.declared.heard.Heard.{Heard}
use Rattle.sessions.specs.Decision.{AnswersTo, IsDecision, IsStepped}
use Rattle.sessions.specs.HeardStep.{StepsHeard, heard_decision}
use Rattle.sessions.specs.Served.{heard_frame}
use Rattle.sessions.specs.Table.{TableState, step}
use Rattle.sessions.specs.declared.heard_step.HeardStep.{HeardStep}
use Rattle.sessions.proofs.Runs.{AnswersTo-handed, AnswersTo-is, AnswersTo-ok, Fits-decision, IsStepped-before, IsStepped-step}
use Rattle.sessions.proofs.table.Table.step_heard.Goals as goal

-- a refusal of the frame is passed on
refused : (t : TableState) (seq : ℕ) (h : Heard) (e : Refusal) (result : Result HeardStep Refusal) → IsErrAnd result (λ x. x ≡ e)
    → AnswersTo (command.Heard h) (step t (command.Heard h)) IsStepped (Err e) → StepsHeard t seq h result
refused t seq h e result handed answers =
    let r = err_from_is_err_and result handed in
    subst (StepsHeard t seq h) (sym (r.1 ∙ ap Err r.2))
    (AnswersTo-handed (command.Heard h) (step t (command.Heard h)) IsStepped (IsDecision t seq (command.Heard h)) e answers)

pub returns-in_err-slot-clause-steps : goal.returns-in_err-slot-clause-steps
returns-in_err-slot-clause-steps c =
    refused c.args.self.now c.args.seq (heard_frame c.args.phy_payload.now c.args.hearings.now) c.in_err-slot.field-0.0 c.from_residual-in_err-slot.result
    c.from_residual-in_err-slot.ensures.1 c.in_err-slot.ensures

pub returns-clause-steps : goal.returns-clause-steps
returns-clause-steps c =
    let t = c.args.self.now in
    let h = heard_frame c.args.phy_payload.now c.args.hearings.now in
    let found = c.in_ok-slot.field-0 in
    let s = AnswersTo-ok (command.Heard h) (step t (command.Heard h)) IsStepped found c.in_ok-slot.ensures in
    let is = IsStepped-step t (command.Heard h) s.0 c.net_id.result c.in_ok-before.before found s.1 s.2 c.net_id.ensures c.in_ok-before.ensures in
    let made : HeardStep = record {
      net_id = c.net_id.result;
      seq = c.args.seq;
      slot = found.slot;
      before = c.in_ok-before.before;
      after = found.after;
      effects = found.effects;
      is_join_request = c.is_request-is_join_request.result;
    } in
    let decision : IsDecision t c.args.seq (command.Heard h) s.0 (heard_decision made h is) = record {
      net = c.net_id.ensures;
      number = refl;
      command = refl;
      slot = s.2.slot;
      before = IsStepped-before t (command.Heard h) s.0 c.in_ok-before.before found s.1 s.2 c.in_ok-before.ensures;
      after = s.2.after;
      effects = s.2.effects;
    } in (
      is,
      (
        AnswersTo-is (command.Heard h) (step t (command.Heard h)) (IsDecision t c.args.seq (command.Heard h)) s.0 (heard_decision made h is) s.1 decision,
        Fits-decision t c.args.seq (command.Heard h) s.0 (heard_decision made h is) c.devices.ensures.few c.devices_are_apart.ensures s.1 decision,
      ),
    )
