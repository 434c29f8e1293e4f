-- How long a frame is, and where its MIC is.
use Rattle.std.proofs.Common.{◌≡◌, ℕ, ◌+◌, ◌-◌, ◌≤◌, List, ◌++◌, length, take, drop, Option, Some, None, ap, ◌∙◌, arith}
use Rattle.std.proofs.lemmas.List.{drop_at, length-append, take_at}
use Rattle.phy_payload.specs.declared.phy.Phy.{Phy}
use Rattle.phy_payload.specs.declared.phy.Phy.TheVariants as phy
use Rattle.phy_payload.specs.declared.join.JoinRequest.{JoinRequest}
use Rattle.phy_payload.specs.declared.data_frame.DataFrame.{DataFrame}
use Rattle.phy_payload.specs.declared.join.JoinAccept.TheVariants.{Short, WithCfList}
use Rattle.phy_payload.specs.declared.contents.PortPayload.{PortPayload}
use Rattle.phy_payload.specs.Contents.{frm_payload_len}
use Rattle.phy_payload.specs.Frame.{data_mic_input, port_and_payload, request_mic_input, spelling, FitsPhy, IsPhy}

port_len : (sent : Option PortPayload) → length (port_and_payload sent) ≤ frm_payload_len sent + 1
port_len None = omega arith
port_len (Some sent) = omega arith

-- the message of a data frame has at most 251 bytes
pub message_len : (d : DataFrame) → length d.contents.f_opts + frm_payload_len d.contents.port_payload ≤ 242 → length (data_mic_input d) ≤ 251
message_len d fits =
    let rest = length-append d.contents.f_opts (port_and_payload d.contents.port_payload) in
    let port = port_len d.contents.port_payload in
    omega arith

pub has_spelling : (frame : Phy) → FitsPhy frame → (12 ≤ length (spelling frame)) × (length (spelling frame) ≤ 255)
unfolding spelling
has_spelling (phy.JoinRequest r) h =
    let len = length-append (request_mic_input r) r.mic.0 in
    let mic = h.mic.1 in
    (omega arith, omega arith)
has_spelling (phy.JoinAccept (Short sealed)) h = let len = h.1 in (omega arith, omega arith)
has_spelling (phy.JoinAccept (WithCfList sealed)) h = let len = h.1 in (omega arith, omega arith)
has_spelling (phy.DataFrame d) h =
    let len = length-append (data_mic_input d) d.mic.0 in
    let rest = length-append d.contents.f_opts (port_and_payload d.contents.port_payload) in
    let port = port_len d.contents.port_payload in
    let fits = h.contents.fits in
    let mic = h.mic.1 in
    (omega arith, omega arith)

-- the last four bytes, and those before them
split_at_four : (message mic bytes : List ℕ) → length mic ≡ 4 → bytes ≡ message ++ mic → (take (length bytes - 4) bytes ≡ message) × (drop (length bytes - 4) bytes ≡ mic)
split_at_four message mic bytes four is =
    let whole : length bytes ≡ length message + length mic = ap length is ∙ length-append message mic in
    let len : length message ≡ length bytes - 4 = omega arith in
    (ap (take (length bytes - 4)) is ∙ take_at message mic _ len, ap (drop (length bytes - 4)) is ∙ drop_at message mic _ len)

pub request_split : (bytes : List ℕ) (r : JoinRequest) → IsPhy bytes (phy.JoinRequest r) → (take (length bytes - 4) bytes ≡ request_mic_input r) × (drop (length bytes - 4) bytes ≡ r.mic.0)
unfolding spelling
request_split bytes r h = split_at_four (request_mic_input r) r.mic.0 bytes h.0.mic.1 h.1

pub data_split : (bytes : List ℕ) (d : DataFrame) → IsPhy bytes (phy.DataFrame d) → (take (length bytes - 4) bytes ≡ data_mic_input d) × (drop (length bytes - 4) bytes ≡ d.mic.0)
unfolding spelling
data_split bytes d h = split_at_four (data_mic_input d) d.mic.0 bytes h.0.mic.1 h.1
