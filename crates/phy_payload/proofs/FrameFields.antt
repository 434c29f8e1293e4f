-- Each part of a frame is read as it is written.
use Rattle.std.proofs.Common.{◌≡◌, ℕ, zero, suc, ◌+◌, ◌-◌, ◌*◌, ◌/◌, ◌%◌, ◌^◌, ◌<◌, ◌≤◌, ◌==◌, Bool, true, false, ltb, List, [], ◌∷◌, ◌++◌, length, take, drop, Option, Some, None, refl, sym, ap, subst, ◌∙◌, arith}
use Rattle.std.specs.Prelude.{IfSome}
use Rattle.std.specs.Int.{w16, w32, w64, to_le_bytes}
use Rattle.std.proofs.lemmas.Bool.{le-ltb, ltb-false}
use Rattle.std.proofs.lemmas.List.{drop_at, length-append, length-take, length-drop, take-append-drop, take_at}
use Rattle.lw_types.specs.Hex.{IsBytes}
use Rattle.lw_types.specs.declared.identifiers.Eui.{Eui}
use Rattle.phy_payload.specs.declared.phy.Mic.{Mic}
use Rattle.phy_payload.specs.declared.join.JoinRequest.{JoinRequest}
use Rattle.phy_payload.specs.declared.control.Control.{Control}
use Rattle.phy_payload.specs.declared.control.Control.TheVariants.{Uplink, Downlink}
use Rattle.lw_types.specs.declared.direction.Direction.{Direction}
use Rattle.lw_types.specs.declared.direction.Direction.TheVariants.{Up, Down}
use Rattle.phy_payload.specs.declared.contents.PortPayload.{PortPayload}
use Rattle.phy_payload.specs.Contents.{frm_payload_len}
use Rattle.phy_payload.specs.Frame.{bit, data_type, f_ctrl, port_and_payload, IsJoinRequest, IsPortPayload, IsMic}
use Rattle.byte_fields.specs.Field.{IsField, AreBytes}
use Rattle.byte_fields.specs.Reading.{both, byte_at, front_at, le_at, le_eui_at}
use Rattle.byte_fields.proofs.FieldLemmas.{IsBytes-after, IsBytes-take, both_field, byte_field, front_field, other_some, seen_field}
use Rattle.byte_fields.proofs.NumberLemmas.{Below, IsEui, le_eui_field, u16_le_field, u32_le_field}
use Rattle.phy_payload.specs.Reading.{control_of, fhdr_at, is_set, port_payload_of, mic_at, mic_off, request_at, join_request_from}

-- ---- Join-Requests

mic_field : IsField IsMic (λ mic. mic.0) mic_at
mic_field = seen_field (AreBytes 4) (λ bytes. bytes) (front_at 4) (front_field 4) (λ bytes. record { 0 = bytes }) IsMic (λ mic. mic.0)
    (λ bytes h. (h, refl))
    (λ mic h. (mic.0, h, refl, refl))

-- a Join-Request after its MHDR
abbrev pub request_text : JoinRequest → List ℕ
request_text r = to_le_bytes w64 r.join_eui.0 ++ (to_le_bytes w64 r.dev_eui.0 ++ (to_le_bytes w16 r.dev_nonce ++ r.mic.0))

pub request_field : IsField IsJoinRequest request_text request_at
unfolding request_at
request_field =
    seen_field (λ (x : Eui × (Eui × (ℕ × Mic))). IsEui x.0 × (IsEui x.1.0 × (Below (2 ^ 16) x.1.1.0 × IsMic x.1.1.1)))
    (λ x. to_le_bytes w64 x.0.0 ++ (to_le_bytes w64 x.1.0.0 ++ (to_le_bytes w16 x.1.1.0 ++ x.1.1.1.0)))
    (both le_eui_at (both le_eui_at (both (le_at w16) mic_at)))
    (both_field IsEui (λ eui. to_le_bytes w64 eui.0) le_eui_at _ _ _ le_eui_field
    (both_field IsEui (λ eui. to_le_bytes w64 eui.0) le_eui_at _ _ _ le_eui_field
    (both_field (Below (2 ^ 16)) (to_le_bytes w16) (le_at w16) IsMic (λ mic. mic.0) mic_at u16_le_field mic_field)))
    join_request_from IsJoinRequest request_text
    (λ x h. (record { join_eui = h.0; dev_eui = h.1.0; dev_nonce = h.1.1.0; mic = h.1.1.1 }, refl))
    (λ r h. ((r.join_eui, (r.dev_eui, (r.dev_nonce, r.mic))), (h.join_eui, (h.dev_eui, (h.dev_nonce, h.mic))), refl, refl))

-- ---- FCtrl

pub bit_is : (value : ℕ) (x : Bool) → (bit value x ≡ value * bit 1 x) × (bit 1 x ≤ 1)
bit_is value true = (omega arith, omega arith)
bit_is value false = (omega arith, omega arith)

two_values : (n : ℕ) → n < 2 → bit 1 (n == 1) ≡ n
two_values zero lt = refl
two_values (suc zero) lt = refl
two_values (suc (suc n)) lt = absurd (omega arith)

-- the value of a bit that was read
bit_of : (byte value : ℕ) → bit value (is_set byte value) ≡ value * (byte / value % 2)
bit_of byte value = (bit_is value (is_set byte value)).0 ∙ ap (λ (n : ℕ). value * n) (two_values (byte / value % 2) (omega arith))

set_if : (byte value : ℕ) (x : Bool) → byte / value % 2 ≡ bit 1 x → is_set byte value ≡ x
set_if byte value true e = rw e refl
set_if byte value false e = rw e refl

not_set : (byte value : ℕ) → is_set byte value ≡ false → byte / value % 2 ≡ 0
not_set byte value e = sym (two_values (byte / value % 2) (omega arith)) ∙ ap (bit 1) e

abbrev pub dir_of : Control → Direction
dir_of (Uplink adr adr_ack_req ack) = Up
dir_of (Downlink adr ack f_pending) = Down

-- the FType of a data frame
abbrev pub type_of : Direction → Bool → ℕ
type_of Up false = 2
type_of Down false = 3
type_of Up true = 4
type_of Down true = 5

pub same_type : (control : Control) (confirmed : Bool) → data_type control confirmed ≡ type_of (dir_of control) confirmed
same_type (Uplink adr adr_ack_req ack) true = refl
same_type (Uplink adr adr_ack_req ack) false = refl
same_type (Downlink adr ack f_pending) true = refl
same_type (Downlink adr ack f_pending) false = refl

-- the control that was read has the direction, and its FCtrl is the byte
abbrev IsRead : Direction → ℕ → Control → Type 0
IsRead direction byte control = (dir_of control ≡ direction) × (f_ctrl control (byte % 16) ≡ byte)

pub control_takes : (direction : Direction) (byte : ℕ) (control : Control) → byte < 256 → control_of direction byte ≡ Some control → (dir_of control ≡ direction) × (f_ctrl control (byte % 16) ≡ byte)
control_takes Up byte control lt e =
    let g = other_some (is_set byte 16) (Uplink (is_set byte 128) (is_set byte 64) (is_set byte 32)) control e in
    let none = not_set byte 16 g.0 in
    let adr = bit_of byte 128 in
    let request = bit_of byte 64 in
    let ack = bit_of byte 32 in
    subst (IsRead Up byte) g.1 (refl, omega arith)
control_takes Down byte control lt e =
    let g = other_some (is_set byte 64) (Downlink (is_set byte 128) (is_set byte 32) (is_set byte 16)) control e in
    let none = not_set byte 64 g.0 in
    let adr = bit_of byte 128 in
    let ack = bit_of byte 32 in
    let pending = bit_of byte 16 in
    subst (IsRead Down byte) g.1 (refl, omega arith)

pub control_again : (control : Control) (len : ℕ) → len ≤ 15 → control_of (dir_of control) (f_ctrl control len) ≡ Some control
control_again (Uplink adr request ack) len le =
    let a = bit_is 128 adr in
    let r = bit_is 64 request in
    let k = bit_is 32 ack in
    let a0 = a.0 in let a1 = a.1 in let r0 = r.0 in let r1 = r.1 in let k0 = k.0 in let k1 = k.1 in
    let byte : ℕ = f_ctrl (Uplink adr request ack) len in
    let none : is_set byte 16 ≡ false = set_if byte 16 false (omega arith) in
    let first : is_set byte 128 ≡ adr = set_if byte 128 adr (omega arith) in
    let second : is_set byte 64 ≡ request = set_if byte 64 request (omega arith) in
    let third : is_set byte 32 ≡ ack = set_if byte 32 ack (omega arith) in
    rw (none, first, second, third) refl
control_again (Downlink adr ack pending) len le =
    let a = bit_is 128 adr in
    let k = bit_is 32 ack in
    let p = bit_is 16 pending in
    let a0 = a.0 in let a1 = a.1 in let k0 = k.0 in let k1 = k.1 in let p0 = p.0 in let p1 = p.1 in
    let byte : ℕ = f_ctrl (Downlink adr ack pending) len in
    let none : is_set byte 64 ≡ false = set_if byte 64 false (omega arith) in
    let first : is_set byte 128 ≡ adr = set_if byte 128 adr (omega arith) in
    let second : is_set byte 32 ≡ ack = set_if byte 32 ack (omega arith) in
    let third : is_set byte 16 ≡ pending = set_if byte 16 pending (omega arith) in
    rw (none, first, second, third) refl

-- FCtrl is a byte, and ends in the length
pub control_byte : (control : Control) (len : ℕ) → len ≤ 15 → (f_ctrl control len < 256) × (f_ctrl control len % 16 ≡ len)
control_byte (Uplink adr request ack) len le =
    let a = bit_is 128 adr in
    let r = bit_is 64 request in
    let k = bit_is 32 ack in
    let a0 = a.0 in let a1 = a.1 in let r0 = r.0 in let r1 = r.1 in let k0 = k.0 in let k1 = k.1 in
    (omega arith, omega arith)
control_byte (Downlink adr ack pending) len le =
    let a = bit_is 128 adr in
    let k = bit_is 32 ack in
    let p = bit_is 16 pending in
    let a0 = a.0 in let a1 = a.1 in let k0 = k.0 in let k1 = k.1 in let p0 = p.0 in let p1 = p.1 in
    (omega arith, omega arith)

-- ---- the other parts of a data frame

-- DevAddr, FCtrl and FCnt
abbrev pub IsHead : ℕ × (ℕ × ℕ) → Type 0
IsHead x = (x.0 < 2 ^ 32) × ((x.1.0 < 256) × (x.1.1 < 2 ^ 16))

abbrev pub head_text : ℕ × (ℕ × ℕ) → List ℕ
head_text x = to_le_bytes w32 x.0 ++ (x.1.0 ∷ [] ++ to_le_bytes w16 x.1.1)

pub head_field : IsField IsHead head_text fhdr_at
head_field =
    both_field (Below (2 ^ 32)) (to_le_bytes w32) (le_at w32) (λ (x : ℕ × ℕ). (x.0 < 256) × (x.1 < 2 ^ 16)) (λ x. x.0 ∷ [] ++ to_le_bytes w16 x.1) (both byte_at (le_at w16)) u32_le_field
    (both_field (λ byte. byte < 256) (λ byte. byte ∷ []) byte_at (Below (2 ^ 16)) (to_le_bytes w16) (le_at w16) byte_field u16_le_field)

-- what was read as a port payload is all of the bytes
pub port_payload_takes : (bytes : List ℕ) (opts : ℕ) → IsBytes bytes → opts ≤ 15 → opts + length bytes ≤ 243
    → IfSome (port_payload_of bytes) IsPortPayload × (opts + frm_payload_len (port_payload_of bytes) ≤ 242) × (bytes ≡ port_and_payload (port_payload_of bytes))
port_payload_takes [] opts fits few le = (tt, omega arith, refl)
port_payload_takes (port ∷ payload) opts fits few le = ((fits 0, λ i. fits (suc i)), omega arith, refl)

pub port_payload_again : (sent : Option PortPayload) → port_payload_of (port_and_payload sent) ≡ sent
port_payload_again None = refl
port_payload_again (Some sent) = refl

-- what comes before the last four bytes, and these
pub mic_takes : (bytes : List ℕ) (parts : List ℕ × Mic) → IsBytes bytes → mic_off bytes ≡ Some parts
    → IsBytes parts.0 × IsMic parts.1 × (bytes ≡ parts.0 ++ parts.1.0) × (length parts.0 + 4 ≡ length bytes)
mic_takes bytes parts fits e =
    let n : ℕ = length bytes - 4 in
    let mic : Mic = record { 0 = drop n bytes } in
    let g = other_some (ltb (length bytes) 4) (take n bytes, mic) parts e in
    let long : 4 ≤ length bytes = ltb-false _ _ g.0 in
    let cut : take n bytes ++ drop n bytes ≡ bytes = take-append-drop n bytes in
    let four : length (drop n bytes) ≡ 4 = omega (arith, length-drop n bytes) in
    let before : length (take n bytes) + 4 ≡ length bytes = omega (arith, length-take n bytes) in
    let after : IsBytes (drop n bytes) = IsBytes-after (take n bytes) (drop n bytes) (subst IsBytes (sym cut) fits) in
    subst (λ (p : List ℕ × Mic). IsBytes p.0 × IsMic p.1 × (bytes ≡ p.0 ++ p.1.0) × (length p.0 + 4 ≡ length bytes)) g.1 (IsBytes-take n bytes fits, (after, four), sym cut, before)

pub mic_again : (front : List ℕ) (mic : Mic) → IsMic mic → mic_off (front ++ mic.0) ≡ Some (front, mic)
mic_again front mic h =
    let four = h.1 in
    let whole = length-append front mic.0 in
    let len : length front ≡ length (front ++ mic.0) - 4 = omega arith in
    let long : ltb (length (front ++ mic.0)) 4 ≡ false = le-ltb _ _ (omega arith) in
    rw (long, take_at front mic.0 _ len, drop_at front mic.0 _ len) refl
