use Rattle.std.proofs.Common.{◌≡◌, ◌<◌, ◌∙◌, ℕ, Option, Some, None, length, sym, ap, subst, arith}
use Rattle.std.proofs.lemmas.Option.{slice_get_past}
use Rattle.std.specs.List.{slice_get}
use Rattle.std.specs.Option.{MatchOption}
use Rattle.devices.specs.declared.device.Device.{Device}
use Rattle.sessions.specs.Table.{TableState, CanPlace, slot_of}
use Rattle.sessions.proofs.Slots.{place-found}
use Rattle.sessions.proofs.table.Table.put.Goals as goal

abbrev name : Device → ℕ
name d = d.dev_eui.0

-- a record of the slot's own device
own_place : (t : TableState) (slot : ℕ) (device : Device) → slot_of device.dev_eui.0 t.devices ≡ Some slot → CanPlace t slot device
own_place t slot device found =
    let f = place-found name device.dev_eui.0 0 t.devices slot found in
    let at : slice_get t.devices slot ≡ Some f.1 = ap (slice_get t.devices) (let h = f.2 in let e : slot ≡ f.0 = omega arith in e) ∙ f.3 in
    subst (λ (o : Option Device). MatchOption o ((slot ≡ length t.devices) × (slot < t.slots) × (slot_of device.dev_eui.0 t.devices ≡ None)) (λ old. old.dev_eui ≡ device.dev_eui))
    (sym at) (λ i. record { 0 = f.4 i })

-- a record of a new device at the next slot
next_place : (t : TableState) (slot : ℕ) (device : Device) → slot ≡ length t.devices → slot < t.slots → slot_of device.dev_eui.0 t.devices ≡ None → CanPlace t slot device
next_place t slot device last room new =
    subst (λ (o : Option Device). MatchOption o ((slot ≡ length t.devices) × (slot < t.slots) × (slot_of device.dev_eui.0 t.devices ≡ None)) (λ old. old.dev_eui ≡ device.dev_eui))
    (sym (slice_get_past t.devices slot (omega arith))) (last, room, new)

pub set_device-requires : goal.set_device-requires
set_device-requires c =
    let same : c.in-Some.other ≡ c.args.slot = omega arith in
    own_place c.args.self.now c.args.slot c.args.device (sym c.in-Some.ensures ∙ ap Some same)

pub set_device-requires-in-None : goal.set_device-requires-in-None
set_device-requires-in-None c =
    let long = ap length c.devices-next.ensures.devices in
    next_place c.args.self.now c.args.slot c.args.device (omega arith) (omega arith) (sym c.in-None.ensures)
