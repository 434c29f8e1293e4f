-- A changed table rules out what the table before it rules out.
use Rattle.std.proofs.Common.{◌≡◌, ◌≤◌, ◌+◌, ◌∙◌, ℕ, suc, zero, List, [], ◌∷◌, length, map, Some, ap, refl, sym, subst, arith}
use Rattle.std.specs.List.{slice_get}
use Rattle.std.specs.Prelude.{All, option_map, slice_index_or}
use Rattle.std.proofs.lemmas.List.Elements.{All-append, All-map}
use Rattle.std.proofs.lemmas.Option.{slice_get-map}
use Rattle.devices.specs.Activation.{AreInOrder}
use Rattle.devices.specs.declared.device.Device.{Device}
use Rattle.devices.specs.declared.mark.Mark.{Mark}
use Rattle.sessions.specs.Index.{HaveOwnSlots}
use Rattle.sessions.specs.Marks.{Covers, IsSound, session_in}
use Rattle.sessions.specs.Table.{TableState, slot_of}
use Rattle.sessions.proofs.Restoring.{same_place}
use Rattle.device_changes.specs.Device.{last_granted, imported_device}
use Rattle.device_changes.specs.Marks.{CoversImported, DecidesAlike, KeepsMarks}
use Rattle.device_changes.specs.Table.{changed_by, changed_table, grown_table, imported_devices}
use Rattle.device_changes.specs.declared.change.Change.{Change}
use Rattle.device_changes.specs.declared.change.Change.TheVariants.{Import, Amend, Retire}
use Rattle.device_changes.proofs.Follows.{cover_alone, follows, granted_is, order_alone}
use Rattle.device_changes.proofs.Places.{place-longer, slice_get-after, slice_get-longer}
use Rattle.device_changes.proofs.Rows.{is-imported}

covers : (rows : List Change) (t : TableState) (m : Mark) → Covers t m → Covers (changed_table rows t) m
covers rows t m c =
    let e = (session_in m).dev_eui.0 in
    let changed = map (changed_by rows) t.devices in
    record {
      slot = c.slot;
      device = changed_by rows c.device;
      own = place-longer e 0 c.slot changed (imported_devices rows) (same_place (changed_by rows) (λ d. (follows rows d).name) e 0 t.devices ∙ c.own);
      at = slice_get-longer c.slot changed (imported_devices rows) (changed_by rows c.device)
          (slice_get-map (changed_by rows) t.devices c.slot ∙ ap (option_map (changed_by rows)) c.at);
      grants = (follows rows c.device).grants m c.grants;
    }

order_imported : (rows : List Change) → All (λ d. AreInOrder d.activation) (imported_devices rows)
order_imported [] k d within = absurd (omega (arith, within))
order_imported (Import i ∷ rows) zero d within = order_alone (last_granted i.last_join_nonce)
order_imported (Import i ∷ rows) (suc k) d within = order_imported rows k d (omega (arith, within))
order_imported (Amend a ∷ rows) k d within = order_imported rows k d within
order_imported (Retire r ∷ rows) k d within = order_imported rows k d within

order_changed : (rows : List Change) (t : TableState) → IsSound t → All (λ d. AreInOrder d.activation) (map (changed_by rows) t.devices)
order_changed rows t sound =
    All-map (λ (d : Device). AreInOrder d.activation) (changed_by rows) t.devices
    (λ k d within. (follows rows (slice_index_or t.devices k d)).order (sound.in_order k d within))

-- each device of a table is at its own slot by the table's type
pub keeps_marks : (rows : List Change) (t : TableState) → HaveOwnSlots (changed_table rows t).devices → KeepsMarks t (changed_table rows t)
keeps_marks rows t own =
    record {
      covers = covers rows t;
      sound = λ sound. record {
        own = own;
        in_order = All-append (λ (d : Device). AreInOrder d.activation) (map (changed_by rows) t.devices) (imported_devices rows)
            (order_changed rows t sound) (order_imported rows);
      };
    }

pub covers_imported : (rows : List Change) (t : TableState) → HaveOwnSlots (changed_table rows t).devices → CoversImported rows (changed_table rows t)
covers_imported rows t own i m has named within =
    let found = is-imported rows i has in
    let changed = map (changed_by rows) t.devices in
    let slot = length changed + found.0 in
    let at : slice_get (changed_table rows t).devices slot ≡ Some (imported_device i) = slice_get-after found.0 changed (imported_devices rows) ∙ found.1 in
    record {
      slot = slot;
      device = imported_device i;
      own = ap (λ e. slot_of e (changed_table rows t).devices) named ∙ own slot (imported_device i) at;
      at = at;
      grants = cover_alone (last_granted i.last_join_nonce) m (subst (λ n. (session_in m).join_nonce ≤ n) (sym (granted_is i.last_join_nonce)) within);
    }

pub keeps_marks-grown : (slots : ℕ) (t : TableState) → KeepsMarks t (grown_table slots t)
keeps_marks-grown slots t =
    record {
      covers = λ m c. record { slot = c.slot; device = c.device; own = c.own; at = c.at; grants = c.grants };
      sound = λ sound. record { own = sound.own; in_order = sound.in_order };
    }

pub alike-grown : (slots : ℕ) (t : TableState) → DecidesAlike t (grown_table slots t)
alike-grown slots t = record { heard = λ h. refl; queue = λ q. refl; queue_mac = λ q. refl }

-- ---- of a call's result

pub keeps_marks_as : (rows : List Change) (t after : TableState) → after ≡ changed_table rows t → HaveOwnSlots after.devices → KeepsMarks t after
keeps_marks_as rows t after is own =
    subst (λ (x : TableState). KeepsMarks t x) (sym is) (keeps_marks rows t (subst (λ (x : TableState). HaveOwnSlots x.devices) is own))

pub covers_as : (rows : List Change) (t after : TableState) → after ≡ changed_table rows t → HaveOwnSlots after.devices → CoversImported rows after
covers_as rows t after is own =
    subst (λ (x : TableState). CoversImported rows x) (sym is) (covers_imported rows t (subst (λ (x : TableState). HaveOwnSlots x.devices) is own))
