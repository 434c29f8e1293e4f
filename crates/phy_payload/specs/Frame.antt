-- Frames and their bytes (TS001-1.0.4 §4, §6.2). Numbers have the lowest byte first.
use Rattle.std.specs.Prelude.{◌≡◌, ℕ, ◌+◌, ◌*◌, ◌^◌, ◌<◌, ◌≤◌, Bool, false, true, ◌&&◌, ◌||◌, ◌==◌}
use Rattle.std.specs.Prelude.{nat_le, if◌then◌else◌, List, [], ◌∷◌, ◌++◌, length, Option, Some}
use Rattle.std.specs.Prelude.{None, IfSome}
use Rattle.std.specs.Int.{w16, w32, w64, to_le_bytes}
use Rattle.lw_types.specs.Hex.{IsBytes}
use Rattle.lw_types.specs.declared.refusal.Refusal.{Refusal}
use Rattle.lw_types.specs.declared.refusal.Refusal.TheVariants.{Malformed, NotServed}
use Rattle.phy_payload.specs.declared.phy.Mic.{Mic}
use Rattle.phy_payload.specs.declared.phy.Phy.{Phy}
use Rattle.phy_payload.specs.declared.phy.Phy.TheVariants as phy
use Rattle.phy_payload.specs.declared.join.JoinRequest.{JoinRequest}
use Rattle.phy_payload.specs.declared.join.JoinAccept.{JoinAccept}
use Rattle.phy_payload.specs.declared.join.JoinAccept.TheVariants.{Short, WithCfList}
use Rattle.phy_payload.specs.declared.control.Control.{Control}
use Rattle.phy_payload.specs.declared.control.Control.TheVariants.{Uplink, Downlink}
use Rattle.phy_payload.specs.declared.contents.PortPayload.{PortPayload}
use Rattle.phy_payload.specs.declared.data_frame.DataFrame.{DataFrame}
use Rattle.phy_payload.specs.Contents.{Carried, frm_payload_len}

-- ---- the fields

-- MHDR: the FType in bits 7 to 5; bits 4 to 0, which are RFU and Major, are 0 (§4.2)
abbrev pub mhdr : ℕ → ℕ
mhdr f_type = 32 * f_type

-- the FType of a data frame, confirmed or not (§4.2.1)
abbrev pub data_type : Control → Bool → ℕ
data_type (Uplink adr adr_ack_req ack) false = 2
data_type (Downlink adr ack f_pending) false = 3
data_type (Uplink adr adr_ack_req ack) true = 4
data_type (Downlink adr ack f_pending) true = 5

-- the value of a bit
abbrev pub bit : ℕ → Bool → ℕ
bit value true = value
bit value false = 0

-- FCtrl: the length of FOpts in bits 3 to 0. Bit 4 of an uplink and bit 6 of a downlink are 0
-- (§4.3.1)
abbrev pub f_ctrl : Control → ℕ → ℕ
f_ctrl (Uplink adr adr_ack_req ack) len = bit 128 adr + bit 64 adr_ack_req + bit 32 ack + len
f_ctrl (Downlink adr ack f_pending) len = bit 128 adr + bit 32 ack + bit 16 f_pending + len

-- FPort and FRMPayload, if there is a port (§4.3.2, §4.3.3)
abbrev pub port_and_payload : Option PortPayload → List ℕ
port_and_payload None = []
port_and_payload (Some sent) = sent.f_port ∷ sent.frm_payload

-- ---- the frames

-- a Join-Request before its MIC: MHDR, JoinEUI, DevEUI, DevNonce (§6.2.5)
abbrev pub request_mic_input : JoinRequest → List ℕ
request_mic_input r =
    mhdr 0 ∷ (to_le_bytes w64 r.join_eui.0
    ++ (to_le_bytes w64 r.dev_eui.0 ++ to_le_bytes w16 r.dev_nonce))

-- what follows the MHDR of a Join-Accept (§6.2.6)
abbrev pub sealed_bytes : JoinAccept → List ℕ
sealed_bytes (Short sealed) = sealed
sealed_bytes (WithCfList sealed) = sealed

-- a data frame before its MIC: MHDR, DevAddr, FCtrl, FCnt, FOpts, FPort and FRMPayload (§4.3)
abbrev pub data_mic_input : DataFrame → List ℕ
data_mic_input d =
    mhdr (data_type d.control d.confirmed)
    ∷ (to_le_bytes w32 d.dev_addr.0
    ++ (f_ctrl d.control (length d.contents.f_opts)
    ∷ (to_le_bytes w16 d.f_cnt
    ++ (d.contents.f_opts
    ++ port_and_payload d.contents.port_payload))))

-- the one spelling of a frame
unfoldable pub spelling : Phy → List ℕ
spelling (phy.JoinRequest r) = request_mic_input r ++ r.mic.0
spelling (phy.JoinAccept a) = mhdr 1 ∷ sealed_bytes a
spelling (phy.DataFrame d) = data_mic_input d ++ d.mic.0

-- ---- which values there are

abbrev pub IsMic : Mic → Type 0
IsMic mic = IsBytes mic.0 × (length mic.0 ≡ 4)

pub record IsJoinRequest (r : JoinRequest) : Type 0 where
  pub join_eui : r.join_eui.0 < 2 ^ 64
  pub dev_eui : r.dev_eui.0 < 2 ^ 64
  pub dev_nonce : r.dev_nonce < 2 ^ 16
  pub mic : IsMic r.mic

-- 17 bytes with the MHDR, or 33 with a CFList
abbrev pub IsJoinAccept : JoinAccept → Type 0
IsJoinAccept (Short sealed) = IsBytes sealed × (length sealed ≡ 16)
IsJoinAccept (WithCfList sealed) = IsBytes sealed × (length sealed ≡ 32)

abbrev pub IsPortPayload : PortPayload → Type 0
IsPortPayload sent = (sent.f_port < 256) × IsBytes sent.frm_payload

-- FOpts has at most 15 bytes, and a frame at most 255
pub record IsCarried (c : Carried) : Type 0 where
  pub f_opts : IsBytes c.f_opts × (length c.f_opts ≤ 15)
  pub port_payload : IfSome c.port_payload IsPortPayload
  pub fits : length c.f_opts + frm_payload_len c.port_payload ≤ 242

pub record IsDataFrame (d : DataFrame) : Type 0 where
  pub dev_addr : d.dev_addr.0 < 2 ^ 32
  pub f_cnt : d.f_cnt < 2 ^ 16
  pub contents : IsCarried d.contents
  pub mic : IsMic d.mic

-- a frame whose fields are in range, like each frame of a program
abbrev pub FitsPhy : Phy → Type 0
FitsPhy (phy.JoinRequest r) = IsJoinRequest r
FitsPhy (phy.JoinAccept a) = IsJoinAccept a
FitsPhy (phy.DataFrame d) = IsDataFrame d

-- ---- bytes and frames

-- these bytes are this frame
abbrev pub IsPhy : List ℕ → Phy → Type 0
IsPhy bytes frame = FitsPhy frame × (bytes ≡ spelling frame)

-- only a data frame takes memory, for what it carries
abbrev pub TakesMemory : Phy → Type 0
TakesMemory (phy.JoinRequest r) = ⊥
TakesMemory (phy.JoinAccept a) = ⊥
TakesMemory (phy.DataFrame d) = Unit {0}

-- these bytes are a frame that takes memory
abbrev pub IsSomePhyInMemory : List ℕ → Type 0
IsSomePhyInMemory bytes = (frame : Phy) × IsPhy bytes frame × TakesMemory frame

-- whether these are 1 to 255 bytes of FType 6, which is RFU, or 7, which is Proprietary
abbrev pub is_not_served : List ℕ → Bool
is_not_served [] = false
is_not_served (first ∷ body) = nat_le (length body) 254 && (first == mhdr 6 || first == mhdr 7)

-- how bytes that are no frame are refused
abbrev pub refusal_of : List ℕ → Refusal
refusal_of bytes = if is_not_served bytes then NotServed else Malformed
