-- Data frames from devices (TS001-1.0.4 §4.3).
use Rattle.std.specs.Prelude.{ℕ, ◌==◌, Bool, false, if◌then◌else◌, List, [], ◌∷◌, Option, Some}
use Rattle.std.specs.Prelude.{None, Result, Ok, Err}
use Rattle.lw_types.specs.declared.refusal.Refusal.{Refusal}
use Rattle.lw_types.specs.declared.refusal.Refusal.TheVariants.{NotServed, MacBoth}
use Rattle.phy_payload.specs.declared.contents.PortPayload.{PortPayload}
use Rattle.phy_payload.specs.declared.control.Control.{Control}
use Rattle.phy_payload.specs.declared.control.Control.TheVariants.{Uplink, Downlink}
use Rattle.phy_payload.specs.declared.data_frame.DataFrame.{DataFrame}
use Rattle.uplinks.specs.declared.uplink.Uplink as declared

-- whether a port payload is on port 0, which is that of MAC commands (§4.3.2)
abbrev pub is_on_port_0 : Option PortPayload → Bool
is_on_port_0 None = false
is_on_port_0 (Some sent) = sent.f_port == 0

-- whether MAC commands are both in FOpts and on FPort 0, which is forbidden (§4.3.1.6)
abbrev pub has_both : List ℕ → Option PortPayload → Bool
has_both [] port_payload = false
has_both (byte ∷ opts) port_payload = is_on_port_0 port_payload

-- the uplink of a data frame
abbrev pub uplink_with : DataFrame → Control → Result declared.Uplink Refusal
uplink_with frame (Downlink adr ack f_pending) = Err NotServed
uplink_with frame (Uplink adr asks acks) =
    if has_both frame.contents.f_opts frame.contents.port_payload then Err MacBoth
    else Ok (record { frame = frame; adr_ack_req = asks; ack = acks })

abbrev pub uplink_of : DataFrame → Result declared.Uplink Refusal
uplink_of frame = uplink_with frame frame.control
