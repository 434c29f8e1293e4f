-- The frame of a downlink (TS001-1.0.4 §4.3, §4.4).
use Rattle.std.specs.Prelude.{ℕ, ◌%◌, ◌^◌, Bool, false, List, [], Option, Some, None}
use Rattle.lw_types.specs.declared.direction.Direction.TheVariants.{Down}
use Rattle.lw_types.specs.declared.identifiers.DevAddr.{DevAddr}
use Rattle.frame_crypt.specs.Frames.{crypted_payload, data_mic}
use Rattle.phy_payload.specs.declared.contents.PortPayload.{PortPayload}
use Rattle.phy_payload.specs.declared.control.Control.TheVariants.{Downlink}
use Rattle.phy_payload.specs.declared.data_frame.DataFrame.{DataFrame}
use Rattle.phy_payload.specs.declared.phy.Mic.{Mic}
use Rattle.phy_payload.specs.Contents.{carried_contents}
use Rattle.phy_payload.specs.Frame.{data_mic_input}
use Rattle.devices.specs.declared.activation.CurrentSession.{CurrentSession}
use Rattle.devices.specs.declared.queue.Item.{Item}
pub use Rattle.downlinks.specs.declared.frame.DownlinkFields.{DownlinkFields}

-- a confirmed item makes a confirmed frame (§4.2.1)
abbrev pub is_confirmed : Option Item → Bool
is_confirmed None = false
is_confirmed (Some item) = item.confirmed

-- FPort, and the item's payload under the AppSKey (§4.3.3)
abbrev pub item_payload : DevAddr → CurrentSession → Option Item → Option PortPayload
item_payload addr c None = None
item_payload addr c (Some item) =
    Some (record {
      f_port = item.port;
      frm_payload = crypted_payload c.session.app_skey.0 Down addr.0 c.next_down item.payload;
    })

-- the frame with the low 16 bits of the session's next counter; ADR is never set
abbrev pub frame_with : Mic → DevAddr → CurrentSession → DownlinkFields → DataFrame
frame_with mic addr c fields =
    record {
      confirmed = is_confirmed fields.item;
      dev_addr = addr;
      control = Downlink false fields.ack fields.f_pending;
      f_cnt = c.next_down % 2 ^ 16;
      contents = carried_contents fields.f_opts (item_payload addr c fields.item);
      mic = mic;
    }

-- what the MIC is made of: all of the frame except the MIC
abbrev pub message_bytes : DevAddr → CurrentSession → DownlinkFields → List ℕ
message_bytes addr c fields = data_mic_input (frame_with (record { 0 = [] }) addr c fields)

-- the frame's MIC, under the NwkSKey and the whole counter (§4.4)
abbrev pub mic_of : DevAddr → CurrentSession → DownlinkFields → Mic
mic_of addr c fields =
    record {
      0 = data_mic c.session.nwk_skey.0 Down addr.0 c.next_down (message_bytes addr c fields);
    }

-- the frame of a downlink with these fields
unfoldable pub sent_frame : DevAddr → CurrentSession → DownlinkFields → DataFrame
sent_frame addr c fields = frame_with (mic_of addr c fields) addr c fields
