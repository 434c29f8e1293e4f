use Rattle.std.proofs.Common.{◌≡◌, ◌∙◌, ℕ, List, Some, Ok, get_or, length, nat_lt, true, refl, sym, ap, subst}
use Rattle.std.specs.List.{slice_get}
use Rattle.std.proofs.lemmas.Bool.{ltb-true}
use Rattle.std.proofs.lemmas.Option.{slice_get_read}
use Rattle.devices.specs.declared.heard.Heard.{Heard}
use Rattle.devices.specs.Address.{slot_at}
use Rattle.lw_types.specs.declared.identifiers.DevAddr.{DevAddr}
use Rattle.devices.specs.declared.device.Device.{Device}
use Rattle.uplinks.specs.Chain.{◌>>=◌}
use Rattle.uplinks.specs.Step.{uplink_at}
use Rattle.sessions.specs.Served.{served_frame, heard_command}
use Rattle.sessions.specs.Table.{step, step_at}
use Rattle.sessions.proofs.Frames.{step-uplink, uplink-received}
use Rattle.sessions.proofs.Exact.{exact-ok, exact-refused}
use Rattle.sessions.proofs.table.Table.hear_uplink.Goals as goal

-- the device that was looked up is at the slot
looked_up : (devices found : List Device) (slot : ℕ) (d : Device) → found ≡ devices → true ≡ nat_lt slot (length found) → d ≡ get_or found slot d
    → slice_get devices slot ≡ Some d
looked_up devices found slot d same within at =
    subst (λ (ds : List Device). slice_get ds slot ≡ Some d) same (slice_get_read found (length found) slot d refl (ltb-true slot (length found) (sym within)) at)

pub without_mic-requires : goal.without_mic-requires
without_mic-requires c =
    let h : Heard = record { phy_payload = c.args.phy_payload.now; hearings = c.args.hearings.now } in
    ap served_frame c.as_slice.ensures.bytes ∙ uplink-received h c.args.uplink.now c.requires

pub returns-in-Ok : goal.returns-in-Ok
returns-in-Ok c =
    let t = c.args.self.now in
    let h : Heard = record { phy_payload = c.args.phy_payload.now; hearings = c.args.hearings.now } in
    let u = c.args.uplink.now in
    let slot = c.slot_at-slot.result in
    let d = c.in-Some.device.now in
    let at = looked_up t.devices c.devices.result.now slot d c.devices.ensures.devices c.in-Some.ensures.lookup.0 c.in-Some.ensures.lookup.1 in
    let leads = c.slot_at-slot.ensures.slot ∙ ap (λ (addr : DevAddr). slot_at addr.0) c.dev_addr.ensures in
    let step_is = step-uplink t h u slot d c.requires leads at in
    let here = ap (λ n. uplink_at n slot d h.hearings u >>= λ o. Ok (step_at slot (Some d) o)) (sym c.net_id-net_id.ensures) in
    exact-ok (uplink_at c.net_id-net_id.result slot d h.hearings u) slot (Some d) (c.in-Ok.after, c.in-Ok.effects) (step t (heard_command h.phy_payload h.hearings))
    (step_is ∙ here) c.in-Ok.ensures

pub returns-in-Err : goal.returns-in-Err
returns-in-Err c =
    let t = c.args.self.now in
    let h : Heard = record { phy_payload = c.args.phy_payload.now; hearings = c.args.hearings.now } in
    let u = c.args.uplink.now in
    let slot = c.slot_at-slot.result in
    let d = c.in-Some.device.now in
    let at = looked_up t.devices c.devices.result.now slot d c.devices.ensures.devices c.in-Some.ensures.lookup.0 c.in-Some.ensures.lookup.1 in
    let leads = c.slot_at-slot.ensures.slot ∙ ap (λ (addr : DevAddr). slot_at addr.0) c.dev_addr.ensures in
    let step_is = step-uplink t h u slot d c.requires leads at in
    let here = ap (λ n. uplink_at n slot d h.hearings u >>= λ o. Ok (step_at slot (Some d) o)) (sym c.net_id-net_id.ensures) in
    exact-refused (uplink_at c.net_id-net_id.result slot d h.hearings u) slot (Some d) c.in-Err.refusal (step t (heard_command h.phy_payload h.hearings))
    (step_is ∙ here) c.in-Err.ensures
