-- The frame that asks a gateway to send a downlink: numbers with the highest byte first.
use Rattle.std.specs.Prelude.{ℕ, ◌+◌, List, ◌∷◌, ◌++◌}
use Rattle.std.specs.Int.{w32, w64, to_be_bytes}
use Rattle.devices.specs.declared.effect.Downlink.{Downlink}
use Rattle.devices.specs.declared.effect.ReceiveWindows.{ReceiveWindows}
use Rattle.devices.specs.declared.effect.ReceiveWindows.TheVariants.{Rx1, Rx1OrRx2}
use Rattle.link_messages.specs.Wire.{wire_frame}
use Rattle.gateway_wire.specs.declared.downlink.TheConstants.{DOWNLINK}

-- RX2 is one second after RX1 (RECEIVE_DELAY2); 0 if it isn't to be used
abbrev pub rx2_delay : ReceiveWindows → ℕ → ℕ
rx2_delay Rx1 rx1_delay = 0
rx2_delay Rx1OrRx2 rx1_delay = rx1_delay + 1

-- the content of a downlink: 11 (hex), the gateway, its stamp of the uplink, Hz and data rate of
-- RX1, the delays of RX1 and RX2, and the PHYPayload
abbrev pub downlink_content : Downlink → List ℕ
downlink_content d =
    DOWNLINK ∷ (to_be_bytes w64 d.gateway.0
    ++ (to_be_bytes w32 d.stamp
    ++ (to_be_bytes w32 d.frequency
    ++ (d.data_rate ∷ d.delay ∷ rx2_delay d.receive_windows d.delay ∷ d.frame))))

abbrev pub downlink_frame : Downlink → List ℕ
downlink_frame d = wire_frame (downlink_content d)
