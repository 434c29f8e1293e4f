use Rattle.std.proofs.Common.{◌∙◌, sym, ap}
use Rattle.join_server.specs.Join.{answer_to}
use Rattle.join_server.specs.declared.grant.JoinGrant.{JoinGrant}
use Rattle.join_server.specs.declared.state.JoinState.{JoinState}
use Rattle.sessions.specs.Join.{grant_step, join_step}
use Rattle.devices.specs.DeviceStep.{IsDeviceStep}
use Rattle.sessions.proofs.JoinTexts.{above-last, joined-err, joined-ok, memory-err, memory-ok, memory-value}
use Rattle.sessions.proofs.join.join.Goals as goal

pub grant_to-requires : goal.grant_to-requires
grant_to-requires c =
    let d = c.args.device.now in
    let ask = c.args.ask.now in
    let granted : JoinState × JoinGrant = (c.in-Ok.state, c.in-Ok.grant) in
    above-last d ask granted (ap (λ s. answer_to s ask) (sym c.join_state.ensures) ∙ memory-value (answer_to c.join_state.result ask) granted c.in-Ok.ensures)

pub returns-in-Ok : goal.returns-in-Ok
returns-in-Ok c =
    let d = c.args.device.now in
    let ask = c.args.ask.now in
    let granted : JoinState × JoinGrant = (c.in-Ok.state, c.in-Ok.grant) in
    let answer = ap (λ s. answer_to s ask) (sym c.join_state.ensures) ∙ memory-value (answer_to c.join_state.result ask) granted c.in-Ok.ensures in
    memory-ok (join_step d c.args.hearings.now ask) IsDeviceStep (grant_step d c.args.hearings.now granted) c.grant_to.result
    (joined-ok d c.args.hearings.now ask granted answer) c.grant_to.ensures

pub returns-in-Err : goal.returns-in-Err
returns-in-Err c =
    let d = c.args.device.now in
    let ask = c.args.ask.now in
    memory-err (join_step d c.args.hearings.now ask) (answer_to c.join_state.result ask) c.in-Err.refusal
    (λ is. joined-err d c.args.hearings.now ask c.in-Err.refusal (ap (λ s. answer_to s ask) (sym c.join_state.ensures) ∙ is))
    c.in-Err.ensures
