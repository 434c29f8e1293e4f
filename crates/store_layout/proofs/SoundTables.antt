-- Entries put on a sound table leave a sound one.
use Rattle.std.proofs.Common.{◌≡◌, ◌≤◌, ◌∙◌, ℕ, nat_eq, nat_lt, List, [], ◌∷◌, length, get_or, Option, Some, None, refl, sym, ap, subst, arith}
use Rattle.std.proofs.lemmas.Bool.{eqb-false, eqb-true, ltb-false, ltb-true}
use Rattle.std.proofs.lemmas.Option.{get_or_from_slice_get, none-some, same_Some, slice_get-get_or, slice_get_within}
use Rattle.std.specs.List.{slice_get}
use Rattle.std.specs.Option.{MatchOption}
use Rattle.std.specs.Prelude.{All}
use Rattle.devices.specs.Activation.{AreInOrder}
use Rattle.devices.specs.declared.device.Device.{Device}
use Rattle.record_codec.specs.declared.version.RecordVersion.{RecordVersion}
use Rattle.sessions.specs.Index.{HaveOwnSlots}
use Rattle.sessions.specs.Marks.{IsSound}
use Rattle.sessions.specs.Table.{CanPut, TableState, slot_of, with_record, with_device}
use Rattle.sessions.proofs.Placing.{at_end, found_name, found_within, get-new, get-other}
use Rattle.sessions.proofs.Slots.{own_names-pushed, own_names-renamed, own_names-replaced, split}
use Rattle.store_layout.specs.Entries.{AreEntries, EntriesLead, EntryValue, IsEntry, LeavesRecord, Puts, slot_in}
use Rattle.store_layout.specs.Entries.EntryValue.{Changed, Whole}

abbrev name : Device → ℕ
name d = d.dev_eui.0

-- ---- the slots

-- if nothing stands there the list has ended
ended : (xs : List Device) (n : ℕ) (x : Device) → slice_get xs n ≡ None → n ≤ length xs → n ≡ length xs
ended xs n x none within =
    split (nat_lt n (length xs))
    (λ before. absurd (none-some (get_or xs n x) (sym none ∙ slice_get-get_or xs n x (ltb-true n (length xs) before))))
    (λ past. let beyond = ltb-false n (length xs) past in omega (arith, within, beyond))

-- each device is found at its own slot after an entry put a record at one
own-put : (t : TableState) (slot : ℕ) (x : Device) → CanPut t slot x → HaveOwnSlots t.devices → HaveOwnSlots (with_record t slot x).devices
own-put t slot x can own = at (slot_of (name x) t.devices) refl can.2 (slice_get t.devices slot) refl
  where
    at : (found : Option ℕ) → slot_of (name x) t.devices ≡ found → MatchOption found (Unit {0}) (λ own. own ≡ slot)
        → (there : Option Device) → slice_get t.devices slot ≡ there → HaveOwnSlots (with_record t slot x).devices
    at None new free (Some old) is = own_names-renamed name slot x old t.devices own is new
    at None new free None is =
        subst (λ ds. HaveOwnSlots ds) (sym (at_end slot x t.devices (ended t.devices slot x is can.0))) (own_names-pushed name x t.devices own new)
    at (Some k) found here (Some old) is =
        own_names-replaced name slot x old t.devices own is (found_name (name x) slot old t.devices (found ∙ ap Some here) is)
    at (Some k) found here None is =
        let within = found_within (name x) slot t.devices (found ∙ ap Some here) in
        let last = ended t.devices slot x is can.0 in
        absurd (omega (arith, within, last))

-- ---- the grants

-- those of the record that an entry leaves are in order
order-left : (v : RecordVersion) (t : TableState) (e : EntryValue) (after : Device) → IsEntry v e → LeavesRecord v t e after → AreInOrder after.activation
order-left v t (Whole slot device) after is leaves = subst (λ (d : Device). AreInOrder d.activation) (sym leaves) is.1.activation.in_order
order-left v t (Changed slot change) after is leaves = leaves.2.2.in_order

-- what holds of a record and of each device before holds after it was put
all-put : (P : Device → Type 0) (n : ℕ) (x : Device) (xs : List Device) → n ≤ length xs → P x → All P xs → All P (with_device n x xs)
all-put P n x xs within holds all k d inside = at (get_or (with_device n x xs) k d) (slice_get-get_or (with_device n x xs) k d inside)
  where
    at : (y : Device) → slice_get (with_device n x xs) k ≡ Some y → P y
    at y is =
        split (nat_eq n k)
        (λ here. subst P (same_Some x y (sym (get-new n x xs within) ∙ (ap (slice_get (with_device n x xs)) (eqb-true n k here) ∙ is))) holds)
        (λ there.
        let was : slice_get xs k ≡ Some y = sym (get-other n k x xs within (eqb-false n k there)) ∙ is in
        subst P (get_or_from_slice_get xs k y y was) (all k y (slice_get_within xs k y was)))

-- ---- entries

sound-put : (v : RecordVersion) (t : TableState) (e : EntryValue) (u : TableState) → IsEntry v e → Puts v t e u → IsSound t → IsSound u
sound-put v t e u is p sound =
    subst IsSound (sym p.is)
    (record {
      own = own-put t (slot_in e) p.after p.can sound.own;
      in_order = all-put (λ d. AreInOrder d.activation) (slot_in e) p.after t.devices p.can.0 (order-left v t e p.after is p.leaves) sound.in_order;
    })

pub leads_sound : (v : RecordVersion) (t u : TableState) (es : List EntryValue) → IsSound t → AreEntries v es → EntriesLead v t es u → IsSound u
leads_sound v t u [] sound are same = subst IsSound (sym same) sound
leads_sound v t u (e ∷ es) sound are lead = leads_sound v lead.0 u es (sound-put v t e lead.0 are.0 lead.1 sound) are.1 lead.2
