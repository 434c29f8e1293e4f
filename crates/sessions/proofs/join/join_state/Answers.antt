use Rattle.std.proofs.Common.{ℕ, Option, ap}
use Rattle.join_server.specs.declared.state.JoinState.{JoinState}
use Rattle.devices.specs.declared.device.Device.{Device}
use Rattle.sessions.proofs.join.join_state.Goals as goal

-- what the join server stores of a device with this last JoinNonce
abbrev kept_of : Device → Option ℕ → JoinState
kept_of d nonce =
    record { dev_eui = d.dev_eui; join_eui = d.join_eui; app_key = d.app_key; dev_nonce = d.last_dev_nonce; join_nonce = nonce }

pub returns : goal.returns
returns c = ap (kept_of c.args.device.now) c.granted.ensures.value
