-- Frames that refer to the bytes they were read from.
use Rattle.std.specs.Prelude.{◌≡◌, Option, Some, None, Result, Ok, Err, MatchResult}
use Rattle.lw_types.specs.declared.refusal.Refusal.{Refusal}
use Rattle.lw_types.specs.declared.refusal.Refusal.TheVariants.{OutOfMemory}
use Rattle.phy_payload.specs.declared.contents.PortPayload.{PortPayload}
use Rattle.phy_payload.specs.declared.frame_ref.PortPayloadRef.{PortPayloadRef}
use Rattle.phy_payload.specs.declared.frame_ref.PhyRef.{PhyRef}
use Rattle.phy_payload.specs.declared.frame_ref.PhyRef.TheVariants as seen
use Rattle.phy_payload.specs.declared.phy.Phy.{Phy}
use Rattle.phy_payload.specs.declared.phy.Phy.TheVariants as phy
use Rattle.phy_payload.specs.Frame.{TakesMemory}

-- a port with its payload, whether it refers to bytes or owns them
abbrev pub seen_port_payload : Option PortPayloadRef → Option PortPayload
seen_port_payload None = None
seen_port_payload (Some sent) =
    Some (record { f_port = sent.f_port; frm_payload = sent.frm_payload.now })

-- a frame, whether it refers to its bytes or owns them
abbrev pub phy_of : PhyRef → Phy
phy_of (seen.JoinRequest request) = phy.JoinRequest request
phy_of (seen.JoinAccept accept) = phy.JoinAccept accept
phy_of (seen.DataFrame frame) = phy.DataFrame frame

abbrev pub phy_read : Result PhyRef Refusal → Result Phy Refusal
phy_read (Ok frame) = Ok (phy_of frame)
phy_read (Err refusal) = Err refusal

-- the frame, unless memory runs out for one that takes some
abbrev pub OwnsFrame : Phy → Result Phy Refusal → Type 0
OwnsFrame wanted result =
    MatchResult result (λ frame. frame ≡ wanted) (λ e. (e ≡ OutOfMemory) × TakesMemory wanted)
