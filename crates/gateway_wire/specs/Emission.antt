-- What leaves the network because of an effect, and on whose link.
use Rattle.std.specs.Prelude.{ℕ, ◌≤◌, List, Option, Some, None, length}
use Rattle.devices.specs.declared.effect.Effect.{Effect}
use Rattle.devices.specs.declared.effect.Effect.TheVariants.{Forward, Accept, Down, Report}
use Rattle.gateway_wire.specs.declared.answer.TheConstants.{LONGEST_ANSWER}
use Rattle.gateway_wire.specs.declared.downlink.TheConstants.{LONGEST_WIRE_FRAME}
use Rattle.gateway_wire.specs.declared.emission.Emission.{Emission}
use Rattle.gateway_wire.specs.declared.emission.Emission.TheVariants.{Gateway, Application}
use Rattle.gateway_wire.specs.declared.recipient.Recipient.{Recipient}
use Rattle.gateway_wire.specs.declared.recipient.Recipient.TheVariants as recipients
use Rattle.gateway_wire.specs.Answer.{answer_frame}
use Rattle.gateway_wire.specs.AppLine.{up_line, report_line}
use Rattle.gateway_wire.specs.Downlink.{downlink_frame}

-- payloads and reports go to the device's application, frames for the device go to the gateway that
-- heard it best
abbrev pub emission : Effect → Emission
emission (Forward application session counter port payload copies best) =
    Application application (up_line session counter port payload copies best)
emission (Report application dev_eui report) = Application application (report_line dev_eui report)
emission (Accept session downlink) = Gateway downlink.gateway (downlink_frame downlink)
emission (Down session counter downlink) = Gateway downlink.gateway (downlink_frame downlink)

-- it fits a frame of the wire
abbrev pub FitsFrame : Emission → Type 0
FitsFrame (Application application line) = length line ≤ LONGEST_ANSWER
FitsFrame (Gateway gateway frame) = length frame ≤ LONGEST_WIRE_FRAME

-- the gateway or the application on whose link that leaves
abbrev pub recipient_in : Emission → Recipient
recipient_in (Application application line) = recipients.Application application
recipient_in (Gateway gateway frame) = recipients.Gateway gateway

abbrev pub recipient : Effect → Recipient
recipient effect = recipient_in (emission effect)

abbrev pub line_in : Emission → Option (List ℕ)
line_in (Application application line) = Some line
line_in (Gateway gateway frame) = None

abbrev pub frame_in : Emission → Option (List ℕ)
frame_in (Application application line) = None
frame_in (Gateway gateway frame) = Some frame

-- the line that an effect sends to an application
abbrev pub app_line : Effect → Option (List ℕ)
app_line effect = line_in (emission effect)

-- the frame that an effect sends to a gateway
abbrev pub gateway_bytes : Effect → Option (List ℕ)
gateway_bytes effect = frame_in (emission effect)

-- the frame of the wire that leaves
abbrev pub emission_frame : Emission → List ℕ
emission_frame (Application application line) = answer_frame line
emission_frame (Gateway gateway frame) = frame

abbrev pub effect_frame : Effect → List ℕ
effect_frame effect = emission_frame (emission effect)
