use Rattle.std.proofs.Common.{◌≡◌, ◌≤◌, ◌<◌, ◌+◌, ◌∙◌, ℕ, List, [], ◌∷◌, ◌++◌, length, Some, None, nat_eq, cond, is_ok, sym, ap, subst, arith}
use Rattle.std.proofs.lemmas.List.{length-set, set_split, length_push}
use Rattle.std.proofs.lemmas.Option.{MatchOption-at_some, MatchOption-at_none, slice_get-get_or, slice_get_past}
use Rattle.std.proofs.lemmas.Result.{IfOk-at_ok}
use Rattle.std.specs.List.{slice_get}
use Rattle.std.proofs.Common.{get_or}
use Rattle.devices.specs.declared.device.Device.{Device}
use Rattle.std.proofs.Common.{Option}
use Rattle.std.specs.HashMap.{get}
use Rattle.sessions.specs.Table.{TableState, CanPlace, slot_of, with_record}
use Rattle.sessions.specs.Index.{HaveOwnSlots, table_of}
use Rattle.sessions.proofs.Slots.{place-replaced, place-pushed, own_names-replaced, own_names-pushed}
use Rattle.sessions.proofs.table.Table.set_device.Goals as goal

abbrev name : Device → ℕ
name d = d.dev_eui.0

-- a slot in use keeps its device's name
in_use : (t : TableState) (slot : ℕ) (device : Device) → CanPlace t slot device → (old : Device) → slice_get t.devices slot ≡ Some old → old.dev_eui ≡ device.dev_eui
in_use t slot device can old at =
    MatchOption-at_some ((slot ≡ length t.devices) × (slot < t.slots) × (slot_of device.dev_eui.0 t.devices ≡ None)) (λ old. old.dev_eui ≡ device.dev_eui) old at can

-- the next slot takes a new name
next : (t : TableState) (slot : ℕ) (device : Device) → CanPlace t slot device → length t.devices ≤ slot
    → (slot ≡ length t.devices) × (slot < t.slots) × (slot_of device.dev_eui.0 t.devices ≡ None)
next t slot device can past =
    MatchOption-at_none ((slot ≡ length t.devices) × (slot < t.slots) × (slot_of device.dev_eui.0 t.devices ≡ None)) (λ old. old.dev_eui ≡ device.dev_eui) (slice_get_past t.devices slot past) can

pub invariant_of-self : goal.invariant_of-self
invariant_of-self c =
    let t = table_of c.self.inside in
    let devices = c.self.inside.devices.items in
    let slot = c.args.slot in
    let device = c.args.device in
    let can : CanPlace t slot device = subst (λ (s : TableState). CanPlace s slot device) (sym c.self.view_is) c.requires in
    let within : slot < length devices = omega (arith, c.self.inside.devices.ok.0) in
    let at : slice_get devices slot ≡ Some (get_or devices slot device) = slice_get-get_or devices slot device within in
    let same = in_use t slot device can (get_or devices slot device) at in
    let parts = set_split devices slot device within in
    record {
      few = rw length-set c.self.invariant.few;
      slots = c.self.invariant.slots;
      finds = λ e. c.self.invariant.finds e ∙ sym (ap (slot_of e) parts ∙ place-replaced name e 0 slot device (get_or devices slot device) devices at (ap (λ (u : _). u.0) same));
      own = subst HaveOwnSlots (sym parts) (own_names-replaced name slot device (get_or devices slot device) devices c.self.invariant.own at (ap (λ (u : _). u.0) same));
      room = c.self.invariant.room;
      spare = rw length-set c.self.invariant.spare;
    }

-- the index after the new name was added
added : (index now : ℕ → Option ℕ) (devices : List Device) (device : Device) (slot : ℕ) → slot ≡ length devices → slot_of device.dev_eui.0 devices ≡ None
    → ((e : ℕ) → index e ≡ slot_of e devices) → ((e : ℕ) → now e ≡ cond (nat_eq device.dev_eui.0 e) (Some slot) (index e))
    → (e : ℕ) → now e ≡ slot_of e (devices ++ device ∷ [])
added index now devices device slot last new finds updates e =
    let k : slot ≡ 0 + length devices = omega arith in
    updates e
    ∙ (ap (λ n. cond (nat_eq device.dev_eui.0 e) (Some n) (index e)) k
    ∙ (ap (cond (nat_eq device.dev_eui.0 e) (Some (0 + length devices))) (finds e)
    ∙ sym (place-pushed name e 0 device devices new)))

pub unwrap-requires : goal.unwrap-requires
unwrap-requires c =
    let t = table_of c.self.inside in
    let past : length t.devices ≤ c.args.slot = omega (arith, c.self.inside.devices.ok.0) in
    let last = next t c.args.slot c.args.device (subst (λ (s : TableState). CanPlace s c.args.slot c.args.device) (sym c.self.view_is) c.requires) past in
    c.insert-indexed.ensures.succeeds (omega (arith, c.self.invariant.spare, last.0, last.1))

pub unwrap-requires-else-at-len : goal.unwrap-requires-else-at-len
unwrap-requires-else-at-len c =
    let t = table_of c.self.inside in
    let past : length t.devices ≤ c.args.slot = omega (arith, c.self.inside.devices.ok.0) in
    let last = next t c.args.slot c.args.device (subst (λ (s : TableState). CanPlace s c.args.slot c.args.device) (sym c.self.view_is) c.requires) past in
    c.push-pushed.ensures.succeeds (omega (arith, c.self.invariant.room, c.self.inside.devices.ok.0, last.0, last.1))

pub invariant_of-self-else-at-len : goal.invariant_of-self-else-at-len
invariant_of-self-else-at-len c =
    let t = table_of c.self.inside in
    let devices = c.self.inside.devices.items in
    let device = c.args.device in
    let past : length devices ≤ c.args.slot = omega (arith, c.self.inside.devices.ok.0) in
    let last = next t c.args.slot device (subst (λ (s : TableState). CanPlace s c.args.slot device) (sym c.self.view_is) c.requires) past in
    let items : c.push-pushed.new.self.items ≡ devices ++ device ∷ [] = c.push-pushed.ensures.items ∙ ap (λ r. cond (is_ok r) (devices ++ device ∷ []) devices) c.unwrap-else-at-len.ensures in
    let longer = length_push devices device in
    let updates = IfOk-at_ok (λ _. _) c.unwrap.ensures c.insert-indexed.ensures.updates in
    record {
      few = rw (items, longer) (omega (arith, last.0, last.1));
      slots = c.self.invariant.slots;
      finds = λ e. added (get nat_eq c.self.inside.index) (get nat_eq c.insert-indexed.new.self) devices device c.args.slot last.0 last.2 c.self.invariant.finds updates.0 e ∙ ap (slot_of e) (sym items);
      own = subst HaveOwnSlots (sym items) (own_names-pushed name device devices c.self.invariant.own last.2);
      room = omega (arith, c.self.invariant.room, c.push-pushed.ensures.capacity);
      spare = rw (items, longer) (omega (arith, c.self.invariant.spare, c.insert-indexed.ensures.spare));
    }

pub returns-then-at-len : goal.returns-then-at-len
returns-then-at-len c =
    let within : c.args.slot < length c.self.inside.devices.items = omega (arith, c.self.inside.devices.ok.0) in
    ap (λ ds. record { net_id = c.self.inside.net_id; slots = c.self.inside.slots; devices = ds }) (set_split c.self.inside.devices.items c.args.slot c.args.device within)
    ∙ ap (λ (s : TableState). with_record s c.args.slot c.args.device) c.self.view_is
