use Rattle.std.proofs.Common.{◌≡◌, ◌<◌, ◌+◌, ◌∙◌, ℕ, List, ◌∷◌, ◌++◌, length, take, drop, suc, Option, Some, None, nat_eq, cond, get_or, sym, ap, subst, arith}
use Rattle.std.proofs.lemmas.List.{length-set, set_split, get_or_read}
use Rattle.std.proofs.lemmas.Option.{slice_get-get_or}
use Rattle.std.proofs.lemmas.Result.{IfOk-at_ok}
use Rattle.std.specs.List.{slice_get}
use Rattle.std.specs.HashMap.{get}
use Rattle.devices.specs.declared.device.Device.{Device}
use Rattle.sessions.specs.Table.{TableState, slot_of, with_record}
use Rattle.sessions.specs.Index.{HaveOwnSlots, table_of}
use Rattle.sessions.proofs.Slots.{place-renamed, own-last, own_names-renamed}
use Rattle.sessions.proofs.table.Table.rename.Goals as goal

abbrev name : Device → ℕ
name d = d.dev_eui.0

-- the index after the old name left it and the new one came
renamed : (index reserved removed now : ℕ → Option ℕ) (devices : List Device) (device old : Device) (slot : ℕ) → slice_get devices slot ≡ Some old
    → HaveOwnSlots devices → slot_of device.dev_eui.0 devices ≡ None
    → ((e : ℕ) → index e ≡ slot_of e devices) → ((e : ℕ) → reserved e ≡ index e)
    → ((e : ℕ) → removed e ≡ cond (nat_eq old.dev_eui.0 e) None (reserved e))
    → ((e : ℕ) → now e ≡ cond (nat_eq device.dev_eui.0 e) (Some slot) (removed e))
    → (e : ℕ) → now e ≡ slot_of e (take slot devices ++ device ∷ drop (suc slot) devices)
renamed index reserved removed now devices device old slot at own new finds kept left came e =
    let here : slot ≡ 0 + slot = omega arith in
    came e
    ∙ (ap (λ k. cond (nat_eq device.dev_eui.0 e) (Some k) (removed e)) here
    ∙ (ap (cond (nat_eq device.dev_eui.0 e) (Some (0 + slot))) (left e ∙ ap (cond (nat_eq old.dev_eui.0 e) None) (kept e ∙ finds e))
    ∙ sym (place-renamed name e 0 slot device old devices at (own slot old at ∙ ap Some here) new (λ j. own-last name slot old devices j own at))))

pub invariant_of-self-2 : goal.invariant_of-self-2
invariant_of-self-2 c =
    let t = table_of c.self.inside in
    let devices = c.self.inside.devices.items in
    let slot = c.args.slot in
    let device = c.args.device in
    let within : slot < length devices = subst (λ (s : TableState). slot < length s.devices) (sym c.self.view_is) c.requires.used in
    let new : slot_of device.dev_eui.0 devices ≡ None = subst (λ (s : TableState). slot_of device.dev_eui.0 s.devices ≡ None) (sym c.self.view_is) c.requires.new_name in
    let old = get_or devices slot device in
    let at = slice_get-get_or devices slot device within in
    let parts = set_split devices slot device within in
    let was : c.index.result.now ≡ old = get_or_read devices slot c.index.result.now within c.index.ensures device in
    let updates = IfOk-at_ok (λ _. _) c.unwrap.ensures c.insert-indexed.ensures.updates in
    record {
      few = rw length-set c.self.invariant.few;
      slots = c.self.invariant.slots;
      finds = λ e.
          renamed (get nat_eq c.self.inside.index) (get nat_eq c.reserve.new.self) (get nat_eq c.remove.new.self) (get nat_eq c.insert-indexed.new.self)
          devices device old slot at c.self.invariant.own new c.self.invariant.finds c.in_ok-reserve.ensures.entries.2
          (λ q. c.remove.ensures.updates.0 q ∙ ap (λ (d : Device). cond (nat_eq d.dev_eui.0 q) None (get nat_eq c.reserve.new.self q)) was) updates.0 e
          ∙ ap (slot_of e) (sym parts);
      own = subst HaveOwnSlots (sym parts) (own_names-renamed name slot device old devices c.self.invariant.own at new);
      room = c.self.invariant.room;
      spare = rw length-set (omega (arith, c.in_ok-reserve.ensures.ok, c.remove.ensures.spare, c.insert-indexed.ensures.spare, c.get-most.ensures.value));
    }

pub returns : goal.returns
returns c =
    let within : c.args.slot < length c.self.inside.devices.items = subst (λ (s : TableState). c.args.slot < length s.devices) (sym c.self.view_is) c.requires.used in
    ap (λ ds. record { net_id = c.self.inside.net_id; slots = c.self.inside.slots; devices = ds }) (set_split c.self.inside.devices.items c.args.slot c.args.device within)
    ∙ ap (λ (s : TableState). with_record s c.args.slot c.args.device) c.self.view_is
