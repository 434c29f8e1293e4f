-- Granting a device a session (TS001-1.0.4 §6.2).
use Rattle.std.specs.Prelude.{ℕ, ◌==◌, ◌*◌, ◌%◌, ◌^◌, Bool, true, false, if◌then◌else◌, List, []}
use Rattle.std.specs.Prelude.{◌∷◌, Option, Some, None, Result, Ok, Err}
use Rattle.lw_types.specs.declared.identifiers.Eui.{Eui}
use Rattle.lw_types.specs.declared.refusal.Refusal.{Refusal}
use Rattle.lw_types.specs.declared.refusal.Refusal.TheVariants.{UnknownDevEui, WrongJoinEui, BadMic}
use Rattle.lw_types.specs.declared.refusal.Refusal.TheVariants.{DevNonceUsed, JoinNonceSpent}
use Rattle.lw_types.specs.declared.refusal.Refusal.TheVariants.{BadMessage}
use Rattle.backend_json.specs.declared.join_ans.Cause.{Cause}
use Rattle.backend_json.specs.declared.join_ans.Cause.TheVariants as causes
use Rattle.join_server.specs.Request.{dev_eui_of}
use Rattle.join_server.specs.Join.{answer_to, next_join_nonce}
use Rattle.join_server.specs.declared.ask.JoinAsk.{JoinAsk}
use Rattle.join_server.specs.declared.grant.JoinGrant.{JoinGrant}
use Rattle.join_server.specs.declared.state.JoinState.{JoinState}
use Rattle.devices.specs.Activation.{with_grant}
use Rattle.devices.specs.Address.{dev_addr}
use Rattle.devices.specs.Heard.{best_of}
use Rattle.devices.specs.DeviceStep.{DeviceStep, device_step}
use Rattle.devices.specs.declared.activation.Session.{Session}
use Rattle.devices.specs.declared.channels.Channels.TheVariants.{Eight}
use Rattle.devices.specs.declared.device.Device.{Device}
use Rattle.devices.specs.declared.heard.Hearing.{Hearing}
use Rattle.devices.specs.declared.mark.SessionName.{SessionName}
use Rattle.devices.specs.declared.effect.Downlink.{Downlink}
use Rattle.devices.specs.declared.effect.ReceiveWindows.TheVariants.{Rx1OrRx2}
use Rattle.devices.specs.declared.effect.Effect.{Effect}
use Rattle.devices.specs.declared.effect.Effect.TheVariants.{Accept}
use Rattle.uplinks.specs.Chain.{◌>>=◌}

-- ---- the question to the join server

-- what the join server stores of a device
abbrev pub join_state : Device → JoinState
join_state d =
    record {
      dev_eui = d.dev_eui;
      join_eui = d.join_eui;
      app_key = d.app_key;
      dev_nonce = d.last_dev_nonce;
      join_nonce = d.activation.granted;
    }

-- the number of a question: that of the decision to which it would lead, in 32 bits
abbrev pub transaction_of : ℕ → ℕ
transaction_of seq = seq % 2 ^ 32

-- the question for the device at a slot, with the address of its next session; RX2 has data rate 0
abbrev pub join_ask : ℕ → ℕ → Device → List ℕ → ℕ → JoinAsk
join_ask net_id slot d request transaction =
    record {
      net_id = net_id;
      dev_addr = dev_addr net_id slot (next_join_nonce d.activation.granted);
      dl_settings = d.rx1_offset * 16;
      rx_delay = d.rx_delay;
      request = request;
      transaction = transaction;
    }

-- a refusal of the join server, from the cause in its text
abbrev pub cause_refusal : Cause → Refusal
cause_refusal causes.UnknownDevEui = UnknownDevEui
cause_refusal causes.WrongJoinEui = WrongJoinEui
cause_refusal causes.BadMic = BadMic
cause_refusal causes.DevNonceUsed = DevNonceUsed
cause_refusal causes.JoinNonceSpent = JoinNonceSpent
cause_refusal causes.BadMessage = BadMessage

-- the refusals of the join server, each of which is given by a text
abbrev pub is_told_by_text : Refusal → Bool
is_told_by_text WrongJoinEui = true
is_told_by_text BadMic = true
is_told_by_text DevNonceUsed = true
is_told_by_text JoinNonceSpent = true
is_told_by_text refusal = false

abbrev pub is_refused_by_text : {A : Type 0} → Result A Refusal → Bool
is_refused_by_text (Ok value) = false
is_refused_by_text (Err refusal) = is_told_by_text refusal

-- ---- what is granted

-- the accept has the CFList, so the device has all eight channels
abbrev pub granted_session : JoinGrant → Session
granted_session grant =
    record {
      join_nonce = grant.join_nonce;
      nwk_skey = grant.nwk_skey;
      app_skey = grant.app_skey;
      channels = Eight;
    }

-- the device's record after a grant: the DevNonce is used, and the session waits for its first
-- uplink
abbrev pub with_session : Device → JoinState × JoinGrant → Device
with_session d granted =
    record d {
      last_dev_nonce = granted.0.dev_nonce;
      activation = with_grant d.activation (granted_session granted.1);
    }

-- the Join-Accept is sent by the gateway that heard the request best. It is sent 5 s after the
-- request (JOIN_ACCEPT_DELAY1), at its frequency and data rate, or a second later in RX2
-- (TS001-1.0.4 §6.2.6). RX1 has the request's data rate, for any RX1DROffset of the device: the
-- offset applies after the accept, and the standard leaves this open
abbrev pub accept_downlink : Hearing → List ℕ → Downlink
accept_downlink best frame =
    record {
      gateway = best.reception.gateway;
      stamp = best.stamp;
      frequency = best.reception.frequency;
      data_rate = best.reception.data_rate;
      delay = 5;
      receive_windows = Rx1OrRx2;
      frame = frame;
    }

abbrev pub session_name : Eui → JoinGrant → SessionName
session_name dev_eui grant = record { dev_eui = dev_eui; join_nonce = grant.join_nonce }

abbrev pub accept_effects : Eui → JoinGrant → Option Hearing → List Effect
accept_effects dev_eui grant None = []
accept_effects dev_eui grant (Some best) =
    Accept (session_name dev_eui grant) (accept_downlink best grant.accept) ∷ []

abbrev pub grant_step : Device → List Hearing → JoinState × JoinGrant → DeviceStep
grant_step d hearings granted =
    device_step (with_session d granted) (accept_effects d.dev_eui granted.1 (best_of hearings))

-- the result of the answer to a question
abbrev pub join_step : Device → List Hearing → JoinAsk → Result DeviceStep Refusal
join_step d hearings ask =
    answer_to (join_state d) ask >>= λ granted. Ok (grant_step d hearings granted)

-- the device that asks is granted or refused a session; the number of the question doesn't matter
abbrev pub join_at : ℕ → ℕ → Device → List Hearing → List ℕ → Result DeviceStep Refusal
join_at net_id slot d hearings request =
    if dev_eui_of request == d.dev_eui.0 then join_step d hearings
    (join_ask net_id slot d request 0) else Err UnknownDevEui
