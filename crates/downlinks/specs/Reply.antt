-- Answers to a device in the receive windows of its uplink (TS001-1.0.4 §3.3, §4.3.1).
use Rattle.std.specs.Prelude.{ℕ, ◌+◌, ◌==◌, ◌^◌, ◌||◌, Bool, true, nat_le, if◌then◌else◌, List, []}
use Rattle.std.specs.Prelude.{◌∷◌, length, Option, Some, None}
use Rattle.lw_types.specs.declared.identifiers.DevAddr.{DevAddr}
use Rattle.phy_payload.specs.declared.phy.Phy.TheVariants.{DataFrame}
use Rattle.phy_payload.specs.Frame.{spelling}
use Rattle.devices.specs.Activation.{with_down_used}
use Rattle.devices.specs.Address.{dev_addr}
use Rattle.devices.specs.DeviceStep.{DeviceStep, device_step, report_effects}
use Rattle.devices.specs.declared.activation.CurrentSession.{CurrentSession}
use Rattle.devices.specs.declared.device.Device.{Device}
use Rattle.devices.specs.declared.effect.Downlink.{Downlink}
use Rattle.devices.specs.declared.effect.Effect.TheVariants.{Down}
use Rattle.devices.specs.declared.effect.Report.TheVariants.{Spent}
use Rattle.devices.specs.declared.effect.ReceiveWindows.{ReceiveWindows}
use Rattle.devices.specs.declared.effect.ReceiveWindows.TheVariants.{Rx1, Rx1OrRx2}
use Rattle.devices.specs.declared.heard.Hearing.{Hearing}
use Rattle.devices.specs.declared.mark.SessionName.{SessionName}
use Rattle.devices.specs.declared.queue.Item.{Item}
use Rattle.devices.specs.declared.Tag.{Tag}
use Rattle.downlinks.specs.declared.load.Demand.{Demand}
use Rattle.downlinks.specs.Load.{f_opts_of, fitting_item, has_any, is_downlink_due}
use Rattle.downlinks.specs.Load.{rx1_data_rate, without_load}
use Rattle.downlinks.specs.Frame.{DownlinkFields, sent_frame}

-- ---- how it is sent

-- RX2 takes a MACPayload of at most 59 bytes. A frame has an MHDR of one byte before it and a MIC
-- of four after it
abbrev pub receive_windows_for : List ℕ → ReceiveWindows
receive_windows_for frame = if nat_le (length frame) (1 + 59 + 4) then Rx1OrRx2 else Rx1

-- a downlink by the gateway that heard the uplink best, in RX1 at the uplink's frequency, or a
-- second later in RX2
abbrev pub downlink : DevAddr → Device → CurrentSession → Hearing → DownlinkFields → Downlink
downlink addr d c best fields =
    let bytes = spelling (DataFrame (sent_frame addr c fields)) in
    record {
      gateway = best.reception.gateway;
      stamp = best.stamp;
      frequency = best.reception.frequency;
      data_rate = rx1_data_rate d best;
      delay = d.rx_delay;
      receive_windows = receive_windows_for bytes;
      frame = bytes;
    }

-- the name of the current session
abbrev pub name_of : Device → CurrentSession → SessionName
name_of d c = record { dev_eui = d.dev_eui; join_nonce = c.session.join_nonce }

-- ---- what it leaves

-- the tag of a confirmed item is awaited
abbrev pub awaited_by : Option Item → Option Tag → Option Tag
awaited_by None awaited = awaited
awaited_by (Some item) awaited = if item.confirmed then Some item.tag else awaited

-- the record of a device after a downlink, which uses up its FCntDown
abbrev pub device_after_downlink : Device → CurrentSession → Option Item → Device
device_after_downlink d c item =
    record d { activation = with_down_used d.activation c; awaited = awaited_by item d.awaited }

-- a downlink of the device, whose queues are left like this
abbrev pub sending_step : DevAddr → Device → CurrentSession → Hearing → DownlinkFields → DeviceStep
sending_step addr left c best fields =
    device_step (device_after_downlink left c fields.item)
    (Down (name_of left c) c.next_down (downlink addr left c best fields) ∷ [])

-- a downlink, if the session has a counter left; otherwise nothing is sent, nothing leaves a queue,
-- and this is reported
abbrev pub sending_or_spent_step : DevAddr → Device → Device → CurrentSession → Hearing
    → DownlinkFields → DeviceStep
sending_or_spent_step addr d left c best fields =
    if c.next_down == 2 ^ 32 then device_step d
    (report_effects d (Spent c.session.join_nonce)) else sending_step addr left c best fields

-- FPending: whether more downlinks wait for the device (§4.3.1.4)
abbrev pub more_waits : Device → Bool
more_waits d = has_any d.mac_queue || has_any d.items

-- FOpts, the item that is sent, and the bits ACK and FPending
abbrev pub downlink_fields : List ℕ → Option Item → Bool → Bool → DownlinkFields
downlink_fields opts going ack pending =
    record { f_opts = opts; item = going; ack = ack; f_pending = pending }

-- ---- the two answers

-- the address of the current session
abbrev pub address : ℕ → ℕ → CurrentSession → DevAddr
address net_id slot c = dev_addr net_id slot c.session.join_nonce

-- a new uplink in this session is answered, if a downlink is due
abbrev pub answer_step : ℕ → ℕ → Device → CurrentSession → Demand → DeviceStep
answer_step net_id slot d c asked =
    if is_downlink_due d asked
    then sending_or_spent_step (address net_id slot c) d (without_load d asked) c asked.best
    (downlink_fields (f_opts_of d asked) (fitting_item d asked) asked.confirmed
    (more_waits (without_load d asked)))
    else device_step d []

-- a confirmed uplink that comes again is acknowledged, and nothing else is sent (§4.3.1.2)
abbrev pub acknowledgement_step : ℕ → ℕ → Device → CurrentSession → Hearing → DeviceStep
acknowledgement_step net_id slot d c best =
    sending_or_spent_step (address net_id slot c) d d c best
    (downlink_fields [] None true (more_waits d))
