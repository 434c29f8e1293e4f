-- What is said on a link towards the network, and the content of its frames: numbers with the
-- highest byte first, signed ones in two's complement.
use Rattle.std.specs.Prelude.{◌≡◌, ◌≢◌, ℕ, ◌<◌, ◌≤◌, ◌^◌, List, [], ◌∷◌, ◌++◌, length, All}
use Rattle.std.specs.Prelude.{FitsSigned, Option, Some, None}
use Rattle.std.specs.Int.{w16, w32, w64, to_be_bytes, cast_unsigned}
use Rattle.lw_types.specs.Hex.{IsBytes}
use Rattle.lw_types.specs.declared.frame_copy.Reception.{Reception}
use Rattle.lw_types.specs.declared.frame_copy.FrameCopy.{FrameCopy}
use Rattle.link_messages.specs.declared.message.Peer.{Peer}
use Rattle.link_messages.specs.declared.message.Peer.TheVariants.{Gateway, Application}
use Rattle.link_messages.specs.declared.message.Message.{Message}
use Rattle.link_messages.specs.declared.message.Message.TheVariants.{Greeting, Copy, Line}

-- 00 (hex) and the EUI; 02 and the application's number
abbrev pub greeting_content : Peer → List ℕ
greeting_content (Gateway gateway) = 0 ∷ to_be_bytes w64 gateway.0
greeting_content (Application application) = 2 ∷ application ∷ []

-- 01, the gateway's EUI, Hz, data rate, SNR in quarter dB, RSSI in dBm, the gateway's stamp, and
-- the PHYPayload
abbrev pub copy_content : FrameCopy → List ℕ
copy_content copy =
    1 ∷ (to_be_bytes w64 copy.reception.gateway.0
    ++ (to_be_bytes w32 copy.reception.frequency
    ++ (copy.reception.data_rate
    ∷ (to_be_bytes w16 (cast_unsigned w16 copy.reception.snr)
    ++ (to_be_bytes w16 (cast_unsigned w16 copy.reception.rssi)
    ++ (to_be_bytes w32 copy.stamp ++ copy.phy_payload))))))

-- a request of an application: 03 (hex) and its line
abbrev pub content_of : Message → List ℕ
content_of (Greeting peer) = greeting_content peer
content_of (Copy copy) = copy_content copy
content_of (Line line) = 3 ∷ line

-- ---- ranges

abbrev pub IsPeer : Peer → Type 0
IsPeer (Gateway gateway) = gateway.0 < 2 ^ 64
IsPeer (Application application) = application ≤ 15

abbrev pub IsReception : Reception → Type 0
IsReception r =
    (r.gateway.0 < 2 ^ 64) × (r.frequency < 2 ^ 32) × (r.data_rate < 256) × FitsSigned w16 r.snr
    × FitsSigned w16 r.rssi

-- ASCII without a newline
abbrev pub IsLine : List ℕ → Type 0
IsLine line = All (λ byte. (byte < 128) × (byte ≢ 10)) line

-- the fields are in range
abbrev pub IsMessage : Message → Type 0
IsMessage (Greeting peer) = IsPeer peer
IsMessage (Copy copy) =
    IsReception copy.reception × (copy.stamp < 2 ^ 32) × IsBytes copy.phy_payload
    × (length copy.phy_payload ≤ 255)
IsMessage (Line line) = IsLine line

-- ---- which peer may say what

-- the first message of a link is a greeting, and no later one is; a gateway sends copies of its
-- own, an application sends lines
abbrev pub MaySay : Option Peer → Message → Type 0
MaySay None (Greeting peer) = Unit {0}
MaySay (Some (Gateway gateway)) (Copy copy) = copy.reception.gateway ≡ gateway
MaySay (Some (Application application)) (Line line) = Unit {0}
MaySay peer message = ⊥

-- the content of a message that may be said
abbrev pub IsSaying : Option Peer → List ℕ → Message → Type 0
IsSaying peer content message =
    IsMessage message × MaySay peer message × (content ≡ content_of message)
