-- Reading a frame from left to right. The law `reading_is_the_grammar` says that it gives exactly
-- what was spelled.
use Rattle.std.specs.Prelude.{◌≡◌, ℕ, ◌-◌, ◌/◌, ◌%◌, Bool, false, true, List, [], ◌∷◌, length, take}
use Rattle.std.specs.Prelude.{drop, nat_lt, ◌==◌, if◌then◌else◌, Option, Some, None, Result, Ok}
use Rattle.std.specs.Prelude.{Err, MatchResult}
use Rattle.std.specs.Int.{w16, w32}
use Rattle.byte_fields.specs.Reading.{Reader, ◌>>=◌, both, byte_at, front_at, le_at, le_eui_at}
use Rattle.byte_fields.specs.Reading.{seen_as, whole}
use Rattle.lw_types.specs.declared.identifiers.Eui.{Eui}
use Rattle.lw_types.specs.declared.refusal.Refusal.{Refusal}
use Rattle.lw_types.specs.declared.refusal.Refusal.TheVariants.{Malformed, NotServed, OutOfMemory}
use Rattle.phy_payload.specs.declared.phy.Mic.{Mic}
use Rattle.phy_payload.specs.declared.phy.Phy.{Phy}
use Rattle.phy_payload.specs.declared.phy.Phy.TheVariants as phy
use Rattle.phy_payload.specs.declared.join.JoinRequest.{JoinRequest}
use Rattle.phy_payload.specs.declared.join.JoinAccept.{JoinAccept}
use Rattle.phy_payload.specs.declared.join.JoinAccept.TheVariants.{Short, WithCfList}
use Rattle.phy_payload.specs.declared.control.Control.{Control}
use Rattle.phy_payload.specs.declared.control.Control.TheVariants.{Uplink, Downlink}
use Rattle.lw_types.specs.declared.direction.Direction.{Direction}
use Rattle.lw_types.specs.declared.direction.Direction.TheVariants.{Up, Down}
use Rattle.phy_payload.specs.declared.contents.PortPayload.{PortPayload}
use Rattle.phy_payload.specs.declared.data_frame.DataFrame.{DataFrame}
use Rattle.phy_payload.specs.Contents.{carried_contents}
use Rattle.phy_payload.specs.Frame.{mhdr, TakesMemory}

-- ---- what a function returns

-- A function returns what is wanted. If that is a frame that takes memory, it may return
-- OutOfMemory instead.
abbrev pub ReadsFrame : Result Phy Refusal → Result Phy Refusal → Type 0
ReadsFrame (Ok frame) wanted = wanted ≡ Ok frame
ReadsFrame (Err e) wanted =
    MatchResult wanted (λ frame. (e ≡ OutOfMemory) × TakesMemory frame) (λ refusal. e ≡ refusal)

abbrev pub or_malformed : {X Y : Type 0} → (X → Y) → Option X → Result Y Refusal
or_malformed f None = Err Malformed
or_malformed f (Some x) = Ok (f x)

-- ---- joins

abbrev pub mic_at : Reader Mic
mic_at = seen_as (λ bytes. record { 0 = bytes }) (front_at 4)

abbrev pub join_request_from : Eui × (Eui × (ℕ × Mic)) → JoinRequest
join_request_from x = record { join_eui = x.0; dev_eui = x.1.0; dev_nonce = x.1.1.0; mic = x.1.1.1 }

unfoldable pub request_at : Reader JoinRequest
request_at = seen_as join_request_from (both le_eui_at (both le_eui_at (both (le_at w16) mic_at)))

abbrev pub accept_at : List ℕ → Option JoinAccept
accept_at body =
    if length body == 16
    then Some (Short body)
    else if length body == 32 then Some (WithCfList body) else None

-- ---- data frames

abbrev pub is_set : ℕ → ℕ → Bool
is_set byte value = byte / value % 2 == 1

-- the bits of FCtrl, if the one that is RFU is 0
abbrev pub control_of : Direction → ℕ → Option Control
control_of Up byte =
    if is_set byte 16
    then None
    else Some (Uplink (is_set byte 128) (is_set byte 64) (is_set byte 32))
control_of Down byte =
    if is_set byte 64
    then None
    else Some (Downlink (is_set byte 128) (is_set byte 32) (is_set byte 16))

abbrev pub port_payload_of : List ℕ → Option PortPayload
port_payload_of [] = None
port_payload_of (port ∷ payload) = Some (record { f_port = port; frm_payload = payload })

-- the last four bytes, after what comes before them
abbrev pub mic_off : List ℕ → Option (List ℕ × Mic)
mic_off bytes =
    if nat_lt (length bytes) 4
    then None
    else Some (take (length bytes - 4) bytes, record { 0 = drop (length bytes - 4) bytes })

-- DevAddr, FCtrl and FCnt
abbrev pub fhdr_at : Reader (ℕ × (ℕ × ℕ))
fhdr_at = both (le_at w32) (both byte_at (le_at w16))

-- a data frame whose FOpts and port payload are still to read
abbrev pub contents_at : Bool → Control → ℕ × (ℕ × ℕ) → Mic → List ℕ → Option DataFrame
contents_at confirmed control head mic bytes =
    front_at (head.1.0 % 16) bytes >>= λ opts.
    Some (
    record {
      confirmed = confirmed;
      dev_addr = record { 0 = head.0 };
      control = control;
      f_cnt = head.1.1;
      contents = carried_contents opts.0 (port_payload_of opts.1);
      mic = mic;
    }
    )

-- what follows the MHDR of a data frame
unfoldable pub data_at : Direction → Bool → List ℕ → Option DataFrame
data_at direction confirmed body =
    mic_off body >>= λ parts. fhdr_at parts.0 >>= λ head. control_of direction head.0.1.0
    >>= λ control. contents_at confirmed control head.0 parts.1 head.1

-- ---- frames

-- what follows an MHDR
abbrev pub body_at : ℕ → List ℕ → Result Phy Refusal
body_at first body =
    if first == mhdr 0 then or_malformed phy.JoinRequest (whole request_at body)
    else if first == mhdr 1 then or_malformed phy.JoinAccept (accept_at body)
    else if first == mhdr 2 then or_malformed phy.DataFrame (data_at Up false body)
    else if first == mhdr 3 then or_malformed phy.DataFrame (data_at Down false body)
    else if first == mhdr 4 then or_malformed phy.DataFrame (data_at Up true body)
    else if first == mhdr 5 then or_malformed phy.DataFrame (data_at Down true body)
    else if first == mhdr 6 then Err NotServed
    else if first == mhdr 7 then Err NotServed
    else Err Malformed

-- a frame by its MHDR, whose RFU bits and Major are 0 (§4.2), of at most 255 bytes
unfoldable pub phy_at : List ℕ → Result Phy Refusal
phy_at [] = Err Malformed
phy_at (first ∷ body) = if nat_lt 254 (length body) then Err Malformed else body_at first body
