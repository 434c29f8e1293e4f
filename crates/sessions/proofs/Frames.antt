-- What is known of a frame that was carried out on a device's record.
use Rattle.std.proofs.Common.{◌≡◌, ◌==◌, ◌∙◌, ℕ, Bool, true, false, cond, List, Option, Some, None, Result, Ok, Err, sym, ap}
use Rattle.std.specs.List.{slice_get}
use Rattle.std.proofs.lemmas.Bool.{eq-eqb, eqb-true}
use Rattle.lw_types.specs.declared.refusal.Refusal.{Refusal}
use Rattle.lw_types.specs.declared.refusal.Refusal.TheVariants.{MacBoth, NotServed, UnknownChannel, UnknownDevAddr, UnknownDevEui}
use Rattle.phy_payload.specs.declared.control.Control.{Control}
use Rattle.phy_payload.specs.declared.control.Control.TheVariants as control
use Rattle.phy_payload.specs.declared.data_frame.DataFrame.{DataFrame}
use Rattle.phy_payload.specs.declared.phy.Phy.{Phy}
use Rattle.phy_payload.specs.declared.phy.Phy.TheVariants as phy
use Rattle.phy_payload.specs.Reading.{phy_at}
use Rattle.join_server.specs.Request.{dev_eui_of}
use Rattle.join_server.specs.declared.ask.JoinAsk.{JoinAsk}
use Rattle.region_eu868.specs.Region.{first_channels, is_among}
use Rattle.devices.specs.Address.{slot_at}
use Rattle.devices.specs.Heard.{best_of}
use Rattle.devices.specs.DeviceStep.{DeviceStep}
use Rattle.devices.specs.declared.command.Command.TheVariants as command
use Rattle.devices.specs.declared.device.Device.{Device}
use Rattle.devices.specs.declared.heard.Heard.{Heard}
use Rattle.devices.specs.declared.heard.Hearing.{Hearing}
use Rattle.uplinks.specs.Chain.{◌>>=◌}
use Rattle.uplinks.specs.Step.{uplink_at}
use Rattle.uplinks.specs.Uplink.{has_both, uplink_of, uplink_with}
use Rattle.uplinks.specs.declared.uplink.Uplink as declared
use Rattle.sessions.specs.Join.{join_ask, join_step}
use Rattle.sessions.specs.Served.{served_frame, heard_step, received_by, received_in, served_at, served_in}
use Rattle.sessions.specs.Step.{step1}
use Rattle.sessions.specs.Table.{TableStep, TableState, known_slot, sender_slot, slot_of, step, step_at, used_slot}
use Rattle.sessions.specs.declared.served.Served.{Served}
use Rattle.sessions.specs.declared.served.Served.TheVariants.{Request, Uplink}
use Rattle.sessions.proofs.Joins.{both_ok, join-ok, no_ok, ok_is, where_true, where_false}
use Rattle.sessions.proofs.Uplinks.{uplink-name}

-- ---- which frame it is

-- an uplink keeps its frame
uplink-frame : (frame : DataFrame) (fctrl : Control) (u : declared.Uplink) → uplink_with frame fctrl ≡ Ok u → frame ≡ u.frame
uplink-frame frame (control.Downlink adr ack f_pending) u h = no_ok NotServed u _ h
uplink-frame frame (control.Uplink adr asks acks) u h =
    let taken : declared.Uplink = record { frame = frame; adr_ack_req = asks; ack = acks } in
    ap (λ (u : declared.Uplink). u.frame) (ok_is taken u (where_false (has_both frame.contents.f_opts frame.contents.port_payload) (Ok taken) MacBoth u h))

-- a Join-Request is no uplink
no_request : (bytes : List ℕ) (u : declared.Uplink) (P : Type 0) → ◌≡◌ {A = Result Served Refusal} (Ok (Request bytes)) (Ok (Uplink u)) → P
no_request bytes u P h = absurd (apart bytes u h)
  where
    apart : (bytes : List ℕ) (u : declared.Uplink) → ◌≡◌ {A = Result Served Refusal} (Ok (Request bytes)) (Ok (Uplink u)) → ⊥
    apart bytes u h = cc

same_uplink : (u v : declared.Uplink) → ◌≡◌ {A = Result Served Refusal} (Ok (Uplink u)) (Ok (Uplink v)) → u ≡ v
same_uplink u v h = cc

-- the bytes of an uplink are a data frame
pub uplink-read : (bytes : List ℕ) (u : declared.Uplink) → served_frame bytes ≡ Ok (Uplink u) → phy_at bytes ≡ Ok (phy.DataFrame u.frame)
uplink-read bytes u h =
    let read = both_ok (phy_at bytes) (served_in bytes) (Uplink u) h in
    read.1 ∙ ap Ok (at read.0 read.2)
  where
    at : (frame : Phy) → served_in bytes frame ≡ Ok (Uplink u) → frame ≡ phy.DataFrame u.frame
    at (phy.JoinRequest request) h = no_request bytes u _ h
    at (phy.JoinAccept accept) h = no_ok NotServed (Uplink u) _ h
    at (phy.DataFrame frame) h =
        let found = both_ok (uplink_of frame) (λ u. Ok (Uplink u)) (Uplink u) h in
        ap (λ (f : DataFrame). phy.DataFrame f) (uplink-frame frame frame.control found.0 found.1 ∙ ap (λ (v : declared.Uplink). v.frame) (same_uplink found.0 u found.2))

-- an uplink may be heard on each channel
pub uplink-received : (h : Heard) (u : declared.Uplink) → received_in h ≡ Ok (Uplink u) → served_frame h.phy_payload ≡ Ok (Uplink u)
uplink-received h u is =
    let read = both_ok (served_frame h.phy_payload) (received_by (best_of h.hearings)) (Uplink u) is in
    read.1 ∙ at (best_of h.hearings) read.0 read.2
  where
    on_first : (first : Bool) (bytes : List ℕ) → cond first (Ok (Request bytes)) (Err UnknownChannel) ≡ Ok (Uplink u)
        → ◌≡◌ {A = Result Served Refusal} (Ok (Request bytes)) (Ok (Uplink u))
    on_first true bytes e = e
    on_first false bytes e = no_ok UnknownChannel (Uplink u) _ e

    at : (best : Option Hearing) (served : Served) → received_by best served ≡ Ok (Uplink u) → ◌≡◌ {A = Result Served Refusal} (Ok served) (Ok (Uplink u))
    at None served e = e
    at (Some best) (Request bytes) e = on_first (is_among first_channels best.reception.frequency) bytes e
    at (Some best) (Uplink v) e = e

-- ---- what it does

-- a frame that was carried out is served
pub heard-ok : (net_id slot : ℕ) (d : Device) (h : Heard) (o : DeviceStep) → heard_step net_id slot d h ≡ Ok o
    → (served : Served) × (received_in h ≡ Ok served) × (served_at net_id slot d h.hearings served ≡ Ok o)
heard-ok net_id slot d h o is = both_ok (received_in h) (served_at net_id slot d h.hearings) o is

-- an uplink that was carried out belongs to the slot
pub uplink-ok : (net_id slot : ℕ) (d : Device) (hearings : List Hearing) (u : declared.Uplink) (o : DeviceStep) → served_at net_id slot d hearings (Uplink u) ≡ Ok o
    → (slot_at u.frame.dev_addr.0 ≡ slot) × (uplink_at net_id slot d hearings u ≡ Ok o)
uplink-ok net_id slot d hearings u o is =
    let found = where_true (slot_at u.frame.dev_addr.0 == slot) (uplink_at net_id slot d hearings u) UnknownDevAddr o is in
    (eqb-true (slot_at u.frame.dev_addr.0) slot found.0, found.1)

-- and leaves the device's name
served-name : (net_id slot : ℕ) (d : Device) (hearings : List Hearing) (served : Served) (o : DeviceStep) → served_at net_id slot d hearings served ≡ Ok o
    → d.dev_eui ≡ o.device.dev_eui
served-name net_id slot d hearings (Request bytes) o is = ap (λ (o : DeviceStep). o.device.dev_eui) (join-ok net_id slot d hearings bytes o is).is
served-name net_id slot d hearings (Uplink u) o is = uplink-name net_id slot d hearings u o (uplink-ok net_id slot d hearings u o is).1

pub heard-name : (net_id slot : ℕ) (d : Device) (h : Heard) (o : DeviceStep) → heard_step net_id slot d h ≡ Ok o → d.dev_eui ≡ o.device.dev_eui
heard-name net_id slot d h o is =
    let found = heard-ok net_id slot d h o is in
    served-name net_id slot d h.hearings found.0 o found.2

-- it was sent from the device's own slot
served-sender : (t : TableState) (slot : ℕ) (d : Device) (hearings : List Hearing) (served : Served) (o : DeviceStep)
    → served_at t.net_id slot d hearings served ≡ Ok o → slot_of d.dev_eui.0 t.devices ≡ Some slot → slice_get t.devices slot ≡ Some d
    → sender_slot t served ≡ Ok slot
served-sender t slot d hearings (Request bytes) o is own at =
    ap known_slot (ap (λ e. slot_of e t.devices) (join-ok t.net_id slot d hearings bytes o is).asks ∙ own)
served-sender t slot d hearings (Uplink u) o is own at =
    ap (λ s. used_slot s (slice_get t.devices s)) (uplink-ok t.net_id slot d hearings u o is).0 ∙ ap (used_slot slot) at

pub heard-sender : (t : TableState) (slot : ℕ) (d : Device) (h : Heard) (o : DeviceStep) → heard_step t.net_id slot d h ≡ Ok o
    → slot_of d.dev_eui.0 t.devices ≡ Some slot → slice_get t.devices slot ≡ Some d → (received_in h >>= sender_slot t) ≡ Ok slot
heard-sender t slot d h o is own at =
    let found = heard-ok t.net_id slot d h o is in
    ap (λ (r : Result Served Refusal). r >>= sender_slot t) found.1 ∙ served-sender t slot d h.hearings found.0 o found.2 own at

-- ---- its step

-- a frame from no slot
pub step-unsent : (t : TableState) (h : Heard) (served : Served) (e : Refusal) → received_in h ≡ Ok served → sender_slot t served ≡ Err e
    → step t (command.Heard h) ≡ Err e
step-unsent t h served e is unsent =
    ap (λ (r : Result Served Refusal). (r >>= sender_slot t) >>= stepped_at) is ∙ ap (λ (r : Result ℕ Refusal). r >>= stepped_at) unsent
  where
    stepped_at : ℕ → Result TableStep Refusal
    stepped_at slot = step1 t.net_id slot (slice_get t.devices slot) (command.Heard h) >>= λ o. Ok (step_at slot (slice_get t.devices slot) o)

-- a frame from a known device
step-served : (t : TableState) (h : Heard) (served : Served) (slot : ℕ) (d : Device) → received_in h ≡ Ok served → sender_slot t served ≡ Ok slot
    → slice_get t.devices slot ≡ Some d → step t (command.Heard h) ≡ (served_at t.net_id slot d h.hearings served >>= λ o. Ok (step_at slot (Some d) o))
step-served t h served slot d is sender at =
    ap (λ (r : Result Served Refusal). (r >>= sender_slot t) >>= stepped_at) is
    ∙ (ap (λ (r : Result ℕ Refusal). r >>= stepped_at) sender
    ∙ (ap (λ (b : Option Device). step1 t.net_id slot b (command.Heard h) >>= λ o. Ok (step_at slot b o)) at
    ∙ ap (λ (r : Result Served Refusal). (r >>= served_at t.net_id slot d h.hearings) >>= placed_at) is))
  where
    placed_at : DeviceStep → Result TableStep Refusal
    placed_at o = Ok (step_at slot (Some d) o)

    stepped_at : ℕ → Result TableStep Refusal
    stepped_at slot = step1 t.net_id slot (slice_get t.devices slot) (command.Heard h) >>= λ o. Ok (step_at slot (slice_get t.devices slot) o)

-- a Join-Request, for any question that differs only in its number
pub step-request : (t : TableState) (h : Heard) (request : List ℕ) (slot : ℕ) (d : Device) (ask : JoinAsk) → received_in h ≡ Ok (Request request)
    → slot_of (dev_eui_of request) t.devices ≡ Some slot → slice_get t.devices slot ≡ Some d → d.dev_eui.0 ≡ dev_eui_of request
    → (n : ℕ) → ask ≡ join_ask t.net_id slot d request n
    → step t (command.Heard h) ≡ (join_step d h.hearings ask >>= λ o. Ok (step_at slot (Some d) o))
step-request t h request slot d ask is found at name n asked =
    step-served t h (Request request) slot d is (ap known_slot found) at
    ∙ (ap (λ (b : Bool). cond b (join_step d h.hearings (join_ask t.net_id slot d request 0)) (Err UnknownDevEui) >>= placed_at)
    (eq-eqb (dev_eui_of request) d.dev_eui.0 (sym name))
    ∙ ap (λ (a : JoinAsk). join_step d h.hearings a >>= placed_at) (sym asked))
  where
    placed_at : DeviceStep → Result TableStep Refusal
    placed_at o = Ok (step_at slot (Some d) o)

-- an uplink
pub step-uplink : (t : TableState) (h : Heard) (u : declared.Uplink) (slot : ℕ) (d : Device) → received_in h ≡ Ok (Uplink u)
    → slot ≡ slot_at u.frame.dev_addr.0 → slice_get t.devices slot ≡ Some d
    → step t (command.Heard h) ≡ (uplink_at t.net_id slot d h.hearings u >>= λ o. Ok (step_at slot (Some d) o))
step-uplink t h u slot d is leads at =
    step-served t h (Uplink u) slot d is (ap (λ s. used_slot s (slice_get t.devices s)) (sym leads) ∙ ap (used_slot slot) at) at
    ∙ ap (λ (b : Bool). cond b (uplink_at t.net_id slot d h.hearings u) (Err UnknownDevAddr) >>= λ o. Ok (step_at slot (Some d) o))
    (eq-eqb (slot_at u.frame.dev_addr.0) slot (sym leads))
