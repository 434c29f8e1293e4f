use Rattle.std.proofs.Common.{◌∙◌, Some, Result, Ok, Err, refl, sym, ap, subst}
use Rattle.lw_types.specs.declared.refusal.Refusal.{Refusal}
use Rattle.devices.specs.declared.heard.Heard.{Heard}
use Rattle.devices.specs.DeviceStep.{IsDeviceStep}
use Rattle.uplinks.specs.Chain.{◌>>=◌}
use Rattle.sessions.specs.declared.table.decide.Stepped.{Stepped}
use Rattle.sessions.specs.Decision.{AnswersTo, IsStepped}
use Rattle.sessions.specs.Join.{join_step, transaction_of}
use Rattle.sessions.specs.Served.{heard_command}
use Rattle.sessions.specs.Table.{TableStep, step_at}
use Rattle.join_server.specs.Request.{dev_eui_of}
use Rattle.sessions.proofs.JoinTexts.{answers-by-text, memory-err, memory-found, memory-ok, step-told}
use Rattle.sessions.proofs.Frames.{step-request}
use Rattle.sessions.proofs.Placing.{found_name}
use Rattle.sessions.proofs.table.Table.hear_request.Goals as goal

pub join-requires : goal.join-requires
join-requires c =
    let q = c.in-Some.question in
    let is = c.in-Some.ensures in
    ap (λ ask. dev_eui_of ask.request) is.is ∙ sym (found_name (dev_eui_of c.args.request) q.slot q.device.now c.args.self.now.devices is.sender is.at)

pub returns-in-Ok : goal.returns-in-Ok
returns-in-Ok c =
    let t = c.args.self.now in
    let h : Heard = record { phy_payload = c.args.phy_payload.now; hearings = c.args.hearings.now } in
    let request = c.args.request in
    let q = c.in-Some.question in
    let d = q.device.now in
    let is = c.in-Some.ensures in
    let name = found_name (dev_eui_of request) q.slot d t.devices is.sender is.at in
    let step_is = step-request t h request q.slot d q.ask c.requires is.sender is.at name (transaction_of c.args.seq) is.is in
    let outcome = memory-found (join_step d h.hearings q.ask) IsDeviceStep (c.in-Ok.after, c.in-Ok.effects) c.in-Ok.ensures in
    let stepped : Stepped = record { slot = q.slot; after = c.in-Ok.after; effects = c.in-Ok.effects } in
    let wanted : Result TableStep Refusal = join_step d h.hearings q.ask >>= λ o. Ok (step_at q.slot (Some d) o) in
    subst (λ w. AnswersTo (heard_command h.phy_payload h.hearings) w IsStepped (Ok stepped)) (sym step_is)
    (answers-by-text h request wanted IsStepped (Ok stepped) c.requires (step-told d h.hearings q.ask (step_at q.slot (Some d)))
    (memory-ok wanted IsStepped (step_at q.slot (Some d) outcome.0) (Ok stepped)
    (ap (λ r. r >>= λ o. Ok (step_at q.slot (Some d) o)) outcome.1)
    (record { slot = refl; after = outcome.2.0; effects = outcome.2.1 })))

pub returns-in-Err : goal.returns-in-Err
returns-in-Err c =
    let t = c.args.self.now in
    let h : Heard = record { phy_payload = c.args.phy_payload.now; hearings = c.args.hearings.now } in
    let request = c.args.request in
    let q = c.in-Some.question in
    let d = q.device.now in
    let is = c.in-Some.ensures in
    let name = found_name (dev_eui_of request) q.slot d t.devices is.sender is.at in
    let step_is = step-request t h request q.slot d q.ask c.requires is.sender is.at name (transaction_of c.args.seq) is.is in
    let wanted : Result TableStep Refusal = join_step d h.hearings q.ask >>= λ o. Ok (step_at q.slot (Some d) o) in
    let refused : Result Stepped Refusal = Err c.in-Err.refusal in
    subst (λ w. AnswersTo (heard_command h.phy_payload h.hearings) w IsStepped refused) (sym step_is)
    (answers-by-text h request wanted IsStepped refused c.requires (step-told d h.hearings q.ask (step_at q.slot (Some d)))
    (memory-err wanted (join_step d h.hearings q.ask) c.in-Err.refusal
    (λ refused. ap (λ r. r >>= λ o. Ok (step_at q.slot (Some d) o)) refused)
    c.in-Err.ensures))
