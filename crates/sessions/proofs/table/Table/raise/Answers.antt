use Rattle.std.proofs.Common.{◌≡◌, ◌≤◌, ◌-◌, ◌∙◌, ℕ, List, length, map, set, Some, sym, ap, subst, arith}
use Rattle.std.specs.Prelude.{slice_get}
use Rattle.std.specs.HashMap.{spare}
use Rattle.std.proofs.lemmas.List.{length-map}
use Rattle.std.proofs.lemmas.Option.{get_or_from_slice_get, slice_get_within}
use Rattle.devices.specs.Restored.{raised_device}
use Rattle.devices.specs.declared.device.Device.{Device}
use Rattle.sessions.specs.Index.{HaveOwnSlots, table_of}
use Rattle.sessions.specs.Restored.{raised_by, raised_table}
use Rattle.sessions.specs.Table.{TableState, slot_of}
use Rattle.sessions.proofs.Raising.{keeps, raised_at, unraised}
use Rattle.sessions.proofs.Restoring.{own_slots, same_place}
use Rattle.sessions.proofs.Slots.{place-found}
use Rattle.sessions.proofs.table.Table.raise.Goals as goal

-- the slot that was found is in use, by the device of this name
found : (devices : List Device) (e slot : ℕ) → slot_of e devices ≡ Some slot → (d : Device) × (slice_get devices slot ≡ Some d) × (d.dev_eui.0 ≡ e)
found devices e slot at =
    let f = place-found (λ (d : Device). d.dev_eui.0) e 0 devices slot at in
    let there : slot ≡ f.0 = let h = f.2 in omega arith in
    (f.1, ap (slice_get devices) there ∙ f.3, f.4)

pub index_mut-requires : goal.index_mut-requires
index_mut-requires c =
    let at = ap (λ (t : TableState). slot_of c.args.session.now.dev_eui.0 t.devices) c.self.view_is ∙ (sym c.slot_of.ensures ∙ c.in-Some.is) in
    let f = found c.self.inside.devices.items c.args.session.now.dev_eui.0 c.in-Some.slot at in
    let within = slice_get_within c.self.inside.devices.items c.in-Some.slot f.0 f.1 in
    omega (arith, within, c.self.inside.devices.ok.0)

-- the devices after the one that was found was raised
raised : (c : goal.After-self-1) → set c.self.inside.devices.items c.in-Some.slot c.raise.new.self ≡ map (raised_by c.args.session.now) c.self.inside.devices.items
raised c =
    let devices = c.self.inside.devices.items in
    let slot = c.in-Some.slot in
    let s = c.args.session.now in
    let at = ap (λ (t : TableState). slot_of s.dev_eui.0 t.devices) c.self.view_is ∙ (sym c.slot_of.ensures ∙ c.in-Some.is) in
    let f = found devices s.dev_eui.0 slot at in
    let was : c.index_mut.result.now ≡ f.0 = c.index_mut.ensures.value ∙ get_or_from_slice_get devices slot f.0 c.index_mut.result.now f.1 in
    ap (set devices slot) (c.raise.ensures ∙ ap (raised_device s.join_nonce) was) ∙ raised_at s slot devices f.0 c.self.invariant.own f.1 at f.2

pub invariant_of-self : goal.invariant_of-self
invariant_of-self c =
    let devices = c.self.inside.devices.items in
    let s = c.args.session.now in
    let items = raised c in
    let now = set devices c.in-Some.slot c.raise.new.self in
    let long : length now ≡ length devices = ap length items ∙ length-map devices (raised_by s) in
    record {
      few = subst (λ n. n ≤ c.self.inside.slots) (sym long) c.self.invariant.few;
      slots = c.self.invariant.slots;
      finds = λ e. c.self.invariant.finds e ∙ (sym (same_place (raised_by s) (keeps s) e 0 devices) ∙ ap (slot_of e) (sym items));
      own = subst HaveOwnSlots (sym items) (own_slots (raised_by s) (keeps s) devices c.self.invariant.own);
      room = c.self.invariant.room;
      spare = subst (λ n. c.self.inside.slots - n ≤ spare c.self.inside.index) (sym long) c.self.invariant.spare;
    }

pub returns-in-Some-clause-raised : goal.returns-in-Some-clause-raised
returns-in-Some-clause-raised c =
    ap (λ devices. record (table_of c.self.inside) { devices = devices }) (raised c) ∙ ap (raised_table c.args.session.now) c.self.view_is

pub returns-in-None-clause-raised : goal.returns-in-None-clause-raised
returns-in-None-clause-raised c =
    ap (λ devices. record c.args.self.now { devices = devices }) (sym (unraised c.args.session.now 0 c.args.self.now.devices (sym c.slot_of.ensures ∙ c.in-None.is)))
