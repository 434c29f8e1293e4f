-- Frames that are served: Join-Requests and uplinks.
use Rattle.std.specs.Prelude.{ℕ, ◌==◌, Bool, true, false, if◌then◌else◌, List, Option, Some, None}
use Rattle.std.specs.Prelude.{Result, Ok, Err}
use Rattle.lw_types.specs.declared.refusal.Refusal.{Refusal}
use Rattle.lw_types.specs.declared.refusal.Refusal.TheVariants.{NotServed, UnknownDevAddr}
use Rattle.lw_types.specs.declared.refusal.Refusal.TheVariants.{UnknownDevEui, UnknownChannel}
use Rattle.phy_payload.specs.declared.phy.Phy.{Phy}
use Rattle.phy_payload.specs.declared.phy.Phy.TheVariants.{JoinRequest, JoinAccept, DataFrame}
use Rattle.phy_payload.specs.Reading.{phy_at}
use Rattle.region_eu868.specs.Region.{first_channels, is_among}
use Rattle.devices.specs.Address.{slot_at}
use Rattle.devices.specs.DeviceStep.{DeviceStep}
use Rattle.devices.specs.Heard.{best_of}
use Rattle.devices.specs.declared.command.Command.{Command}
use Rattle.devices.specs.declared.command.Command.TheVariants as command
use Rattle.devices.specs.declared.device.Device.{Device}
use Rattle.devices.specs.declared.heard.Heard.{Heard}
use Rattle.devices.specs.declared.heard.Hearing.{Hearing}
use Rattle.uplinks.specs.Chain.{◌>>=◌}
use Rattle.uplinks.specs.Step.{uplink_at}
use Rattle.uplinks.specs.Uplink.{uplink_of}
use Rattle.sessions.specs.Join.{join_at}
use Rattle.sessions.specs.declared.served.Served.{Served}
use Rattle.sessions.specs.declared.served.Served.TheVariants.{Request, Uplink}

-- Join-Requests and uplinks are served, and no other frames
abbrev pub served_in : List ℕ → Phy → Result Served Refusal
served_in bytes (JoinRequest request) = Ok (Request bytes)
served_in bytes (JoinAccept accept) = Err NotServed
served_in bytes (DataFrame frame) = uplink_of frame >>= λ u. Ok (Uplink u)

-- whether a frame is a Join-Request
abbrev pub is_request : Result Served Refusal → Bool
is_request (Ok (Request bytes)) = true
is_request (Ok (Uplink u)) = false
is_request (Err refusal) = false

-- the frame of these bytes
abbrev pub served_frame : List ℕ → Result Served Refusal
served_frame bytes = phy_at bytes >>= served_in bytes

-- a device that joins sends on one of the first three channels (RP002-1.0.4, EU863-870): the copy
-- that was heard best is on one of these; the channels of the other copies don't matter
abbrev pub if_on_first_channel : List ℕ → Hearing → Result Served Refusal
if_on_first_channel bytes best =
    if is_among first_channels best.reception.frequency
    then Ok (Request bytes) else Err UnknownChannel

abbrev pub received_by : Option Hearing → Served → Result Served Refusal
received_by None served = Ok served  -- not reached
received_by (Some best) (Request bytes) = if_on_first_channel bytes best
received_by (Some best) (Uplink u) = Ok (Uplink u)

-- the frame that was heard
abbrev pub received_in : Heard → Result Served Refusal
received_in h = served_frame h.phy_payload >>= received_by (best_of h.hearings)

-- the refusal of a frame that no device sent
abbrev pub unknown_sender : Served → Refusal
unknown_sender (Request bytes) = UnknownDevEui
unknown_sender (Uplink u) = UnknownDevAddr

-- a frame that was heard with these copies, and its command
abbrev pub heard_frame : List ℕ → List Hearing → Heard
heard_frame phy_payload hearings = record { phy_payload = phy_payload; hearings = hearings }

abbrev pub heard_command : List ℕ → List Hearing → Command
heard_command phy_payload hearings = command.Heard (heard_frame phy_payload hearings)

-- what a frame does to the device at a slot: an uplink is the device's own only if the address
-- leads to the slot
abbrev pub served_at : ℕ → ℕ → Device → List Hearing → Served → Result DeviceStep Refusal
served_at net_id slot d hearings (Request bytes) = join_at net_id slot d hearings bytes
served_at net_id slot d hearings (Uplink u) =
    if slot_at u.frame.dev_addr.0
    == slot then uplink_at net_id slot d hearings u else Err UnknownDevAddr

-- what a heard frame does to the device at a slot
abbrev pub heard_step : ℕ → ℕ → Device → Heard → Result DeviceStep Refusal
heard_step net_id slot d h = received_in h >>= served_at net_id slot d h.hearings

-- what a frame does if there is no device: it is refused as any frame is, or else because no device
-- sent it
abbrev pub unheard : Heard → Result DeviceStep Refusal
unheard h = received_in h >>= λ served. Err (unknown_sender served)
