-- What a new uplink does (TS001-1.0.4 §4.3, §5).
use Rattle.std.specs.Prelude.{ℕ, ◌==◌, ◌&&◌, Bool, false, nat_lt, if◌then◌else◌, List, [], ◌∷◌}
use Rattle.std.specs.Prelude.{◌++◌, Option, Some, None}
use Rattle.lw_types.specs.declared.direction.Direction.TheVariants.{Up}
use Rattle.lw_types.specs.declared.identifiers.DevAddr.{DevAddr}
use Rattle.frame_crypt.specs.Frames.{crypted_payload}
use Rattle.mac_commands.specs.Reading.{asks_link_check, reported_bytes}
use Rattle.phy_payload.specs.declared.contents.PortPayload.{PortPayload}
use Rattle.devices.specs.Activation.{Grants, with_last_up, with_current}
use Rattle.devices.specs.Device.{one_more_heard}
use Rattle.devices.specs.DeviceStep.{DeviceStep, device_step, report_effects}
use Rattle.devices.specs.declared.activation.CurrentSession.{CurrentSession}
use Rattle.devices.specs.declared.device.Device.{Device}
use Rattle.devices.specs.declared.effect.Effect.{Effect}
use Rattle.devices.specs.declared.effect.Effect.TheVariants.{Forward}
use Rattle.devices.specs.declared.effect.Report.TheVariants.{Acked, Lost, Mac}
use Rattle.devices.specs.declared.heard.Hearing.{Hearing}
use Rattle.devices.specs.declared.Tag.{Tag}
use Rattle.downlinks.specs.declared.load.Demand.{Demand}
use Rattle.downlinks.specs.Reply.{answer_step, name_of}
use Rattle.uplinks.specs.declared.fit.Fit.{Fit}
use Rattle.uplinks.specs.declared.fit.Fit.TheVariants.{First, Next, Again}
use Rattle.uplinks.specs.declared.uplink.Uplink.{Uplink}

-- ---- the session

-- the session of the device after an uplink
abbrev pub session_after : Fit → CurrentSession
session_after (First s counter) = record { session = s; last_up = counter; next_down = 0 }
session_after (Next c counter) = record c { last_up = counter }
session_after (Again c) = c

-- the device's sessions after an uplink: a pending one becomes the current one
abbrev pub grants_after : Grants → Fit → Grants
grants_after g (First s counter) = with_current g s counter
grants_after g (Next c counter) = with_last_up g c counter
grants_after g (Again c) = g

-- the count of the device's uplinks after an uplink: one that comes again isn't counted again
abbrev pub heard_after : Fit → ℕ → ℕ
heard_after (First s counter) heard = one_more_heard heard
heard_after (Next c counter) heard = one_more_heard heard
heard_after (Again c) heard = heard

-- the device's record with the uplink's session and counter, and with one uplink more if it is new;
-- no item is awaited any more
abbrev pub with_uplink : Device → Fit → Device
with_uplink d fit =
    record d {
      activation = grants_after d.activation fit;
      awaited = None;
      heard = heard_after fit d.heard;
    }

-- ---- the item that was awaited

-- whether the uplink acknowledges the last confirmed downlink. That downlink was in the same
-- session
abbrev pub is_acknowledgement : Fit → Uplink → Bool
is_acknowledgement (First s counter) u = false
is_acknowledgement (Next c counter) u = u.ack
is_acknowledgement (Again c) u = false

abbrev pub awaited_report : Device → Bool → Option Tag → List Effect
awaited_report d acked None = []
awaited_report d acked (Some tag) = report_effects d (if acked then Acked tag else Lost tag)

-- ---- MAC commands

-- the MAC commands of the uplink: on port 0 they are encrypted under the NwkSKey (§4.3.2),
-- otherwise they are in FOpts
abbrev pub mac_bytes : DevAddr → CurrentSession → List ℕ → Option PortPayload → List ℕ
mac_bytes addr c opts None = opts
mac_bytes addr c opts (Some sent) =
    if sent.f_port == 0 then crypted_payload c.session.nwk_skey.0 Up addr.0 c.last_up
    sent.frm_payload else opts

abbrev pub sent_commands : CurrentSession → Uplink → List ℕ
sent_commands c u =
    mac_bytes u.frame.dev_addr c u.frame.contents.f_opts u.frame.contents.port_payload

-- the commands that the network doesn't answer itself are reported, if there are any
abbrev pub mac_report : Device → CurrentSession → List ℕ → List Effect
mac_report d c [] = []
mac_report d c (byte ∷ bytes) = report_effects d (Mac c.session.join_nonce (byte ∷ bytes))

-- ---- the payload

-- whether an FPort is an application's, from 1 to 223. Port 224 is that of the standard's test
-- protocol, and those above are reserved (§4.3.2); by this project's choice their payloads go to no
-- application
abbrev pub is_application : ℕ → Bool
is_application port = nat_lt 0 port && nat_lt port 224

-- the payload on an application's port is decrypted under the AppSKey and handed on, with the
-- number of copies and the best of them
abbrev pub forward_effects : DevAddr → Device → CurrentSession → ℕ → Hearing → Option PortPayload
    → List Effect
forward_effects addr d c copies best None = []
forward_effects addr d c copies best (Some sent) =
    if is_application sent.f_port
    then Forward d.application (name_of d c) c.last_up sent.f_port
    (crypted_payload c.session.app_skey.0 Up addr.0 c.last_up sent.frm_payload) copies
    best.reception
    ∷ []
    else []

-- ---- all of it

-- what the uplink asks of the network
abbrev pub demand_of : CurrentSession → Uplink → ℕ → Hearing → Demand
demand_of c u heard by =
    record {
      confirmed = u.frame.confirmed;
      adr_ack_req = u.adr_ack_req;
      link_check = asks_link_check (sent_commands c u);
      best = by;
      copies = heard;
    }

-- the effects before the answer, in order
abbrev pub effects_before_answer : Device → Fit → Uplink → ℕ → Hearing → List Effect
effects_before_answer d fit u copies best =
    let c = session_after fit in
    awaited_report d (is_acknowledgement fit u) d.awaited
    ++ (mac_report d c (reported_bytes (sent_commands c u))
    ++ forward_effects u.frame.dev_addr d c copies best u.frame.contents.port_payload)

abbrev pub with_effects : List Effect → DeviceStep → DeviceStep
with_effects before o = device_step o.device (before ++ o.effects)

-- a new uplink is taken: its session and counter are stored, then the device is answered
abbrev pub uplink_step : ℕ → ℕ → Device → Fit → Uplink → ℕ → Hearing → DeviceStep
uplink_step net_id slot d fit u copies best =
    let c = session_after fit in
    with_effects (effects_before_answer d fit u copies best)
    (answer_step net_id slot (with_uplink d fit) c (demand_of c u copies best))
