-- How placing a record in a table changes the marks that the table covers.
use Rattle.std.proofs.Common.{◌≡◌, ◌≢◌, ◌⊎◌, inl, inr, ◌+◌, ◌≤◌, ◌∙◌, ℕ, false, cond, nat_eq, List, [], length, get_or, Some, None, arith, ap, subst, sym}
use Rattle.std.proofs.lemmas.Bool.{eqb-false, eqb-true, ne_eqb}
use Rattle.std.proofs.lemmas.Option.{get_or_from_slice_get, none-some, same_Some, slice_get-get_or, slice_get_within}
use Rattle.std.specs.List.{AllByRecursion, slice_get}
use Rattle.std.specs.Prelude.{All}
use Rattle.lw_types.specs.declared.identifiers.Eui.{Eui}
use Rattle.devices.specs.Activation.{AreInOrder}
use Rattle.devices.specs.declared.device.Device.{Device}
use Rattle.devices.specs.declared.mark.Mark.{Mark}
use Rattle.sessions.specs.Index.{HaveOwnSlots}
use Rattle.sessions.specs.Marks.{Covers, GrantsCover, IsSound, session_in}
use Rattle.sessions.specs.Table.{TableState, with_record, slot_of, with_device}
use Rattle.sessions.proofs.Grants.{Passes}
use Rattle.sessions.proofs.Moves.{Moves, all_both}
use Rattle.sessions.proofs.Placing.{at_end, get-new, get-other}
use Rattle.sessions.proofs.Slots.{own_names-pushed, own_names-replaced, place-pushed, place-replaced, split}

abbrev name : Device → ℕ
name d = d.dev_eui.0

-- what holds of a record, and of each device before it was placed, holds of each device afterwards
all-placed : (P : Device → Type 0) (n : ℕ) (x : Device) (xs : List Device) → n ≤ length xs → P x → All P xs → All P (with_device n x xs)
all-placed P n x xs within holds all k d inside = at (get_or (with_device n x xs) k d) (slice_get-get_or (with_device n x xs) k d inside)
  where
    at : (y : Device) → slice_get (with_device n x xs) k ≡ Some y → P y
    at y is =
        split (nat_eq n k)
        (λ here. subst P (same_Some x y (sym (get-new n x xs within) ∙ (ap (slice_get (with_device n x xs)) (eqb-true n k here) ∙ is))) holds)
        (λ there.
        let was : slice_get xs k ≡ Some y = sym (get-other n k x xs within (eqb-false n k there)) ∙ is in
        subst P (get_or_from_slice_get xs k y y was) (all k y (slice_get_within xs k y was)))

-- the grants of a device of a sound table are in order
pub order_at : (t : TableState) (slot : ℕ) (d : Device) → IsSound t → slice_get t.devices slot ≡ Some d → AreInOrder d.activation
order_at t slot d sound at =
    subst (λ (d : Device). AreInOrder d.activation) (get_or_from_slice_get t.devices slot d d at)
    (sound.in_order slot d (slice_get_within t.devices slot d at))

-- ---- a record at the slot of its own device

-- the device's grants become those of this record, and use up these marks of its own
pub record Regrants (t : TableState) (slot : ℕ) (x : Device) (marks : List Mark) : Type 0 where
  pub device : Device
  pub own : slot_of device.dev_eui.0 t.devices ≡ Some slot
  pub at : slice_get t.devices slot ≡ Some device
  pub named : device.dev_eui ≡ x.dev_eui
  pub theirs : AllByRecursion (λ m. device.dev_eui ≡ (session_in m).dev_eui) marks
  pub passes : Passes device.activation x.activation marks

module _ (t : TableState) (slot : ℕ) (x : Device) (marks : List Mark) (r : Regrants t slot x marks) where
  within : slot ≤ length t.devices
  within = let inside = slice_get_within t.devices slot r.device r.at in omega arith

  same-slots : (e : ℕ) → slot_of e (with_record t slot x).devices ≡ slot_of e t.devices
  same-slots e = place-replaced name e 0 slot x r.device t.devices r.at (ap (λ (u : Eui). u.0) r.named)

  -- at the slot, the table covers what the record's grants cover
  by_record : (m : Mark) → slot_of (session_in m).dev_eui.0 t.devices ≡ Some slot → GrantsCover x.activation m → Covers (with_record t slot x) m
  by_record m own grants =
      record { slot = slot; device = x; own = same-slots (session_in m).dev_eui.0 ∙ own; at = get-new slot x t.devices within; grants = grants }

  -- at the slot, the device's grants cover what the table covers
  by_device : (m : Mark) (c : Covers t m) → slot ≡ c.slot → GrantsCover r.device.activation m
  by_device m c here =
      let same : c.device ≡ r.device = same_Some c.device r.device (sym c.at ∙ (ap (slice_get t.devices) (sym here) ∙ r.at)) in
      subst (λ (d : Device). GrantsCover d.activation m) same c.grants

  keeps-used : (m : Mark) → Covers t m → Covers (with_record t slot x) m
  keeps-used m c =
      split (nat_eq slot c.slot)
      (λ here.
      let same = eqb-true slot c.slot here in
      by_record m (c.own ∙ ap Some (sym same)) (r.passes.moves.keeps m (by_device m c same)))
      (λ there.
      record {
        slot = c.slot;
        device = c.device;
        own = same-slots (session_in m).dev_eui.0 ∙ c.own;
        at = get-other slot c.slot x t.devices within (eqb-false slot c.slot there) ∙ c.at;
        grants = c.grants;
      })

  found : (m : Mark) → r.device.dev_eui ≡ (session_in m).dev_eui → slot_of (session_in m).dev_eui.0 t.devices ≡ Some slot
  found m theirs = ap (λ (e : Eui). slot_of e.0 t.devices) (sym theirs) ∙ r.own

  moves_used : Moves Covers t (with_record t slot x) marks
  moves_used =
      record {
        keeps = keeps-used;
        fresh = all_both _ (λ m. GrantsCover r.device.activation m → ⊥) (λ m. Covers t m → ⊥) marks
            (λ m theirs uncovered c. uncovered (by_device m c (same_Some slot c.slot (sym (found m theirs) ∙ c.own)))) r.theirs r.passes.moves.fresh;
        covered = all_both _ (λ m. GrantsCover x.activation m) (λ m. Covers (with_record t slot x) m) marks
            (λ m theirs grants. by_record m (found m theirs) grants) r.theirs r.passes.moves.covered;
        distinct = r.passes.moves.distinct;
      }

  sound_used : IsSound t → IsSound (with_record t slot x)
  sound_used sound =
      let was : AreInOrder r.device.activation = order_at t slot r.device sound r.at in
      record {
        own = own_names-replaced name slot x r.device t.devices sound.own r.at (ap (λ (u : Eui). u.0) r.named);
        in_order = all-placed (λ d. AreInOrder d.activation) slot x t.devices within (r.passes.in_order was) sound.in_order;
      }

-- ---- a new device at the next slot

-- no other device has its DevEUI, and its grants are in order
pub record Brings (t : TableState) (slot : ℕ) (x : Device) : Type 0 where
  pub next : slot ≡ length t.devices
  pub is_new : slot_of x.dev_eui.0 t.devices ≡ None
  pub in_order : AreInOrder x.activation

module _ (t : TableState) (slot : ℕ) (x : Device) (b : Brings t slot x) where
  keeps-new : (m : Mark) → Covers t m → Covers (with_record t slot x) m
  keeps-new m c =
      let e : ℕ = (session_in m).dev_eui.0 in
      let inside = slice_get_within t.devices c.slot c.device c.at in
      let apart : slot ≢ c.slot = λ same. absurd (omega (arith, inside, b.next, same)) in
      let other : nat_eq (name x) e ≡ false =
      ne_eqb (name x) e (λ same. none-some c.slot (sym b.is_new ∙ (ap (λ n. slot_of n t.devices) same ∙ c.own))) in
      record {
        slot = c.slot;
        device = c.device;
        own = ap (slot_of e) (at_end slot x t.devices b.next)
            ∙ (place-pushed name e 0 x t.devices b.is_new
            ∙ (ap (λ h. cond h (Some (0 + length t.devices)) (slot_of e t.devices)) other ∙ c.own));
        at = get-other slot c.slot x t.devices (omega (arith, b.next)) apart ∙ c.at;
        grants = c.grants;
      }

  moves_new : Moves Covers t (with_record t slot x) []
  moves_new = record { keeps = keeps-new; fresh = tt; covered = tt; distinct = tt }

  sound_new : IsSound t → IsSound (with_record t slot x)
  sound_new sound =
      record {
        own = subst (λ ds. HaveOwnSlots ds) (sym (at_end slot x t.devices b.next)) (own_names-pushed name x t.devices sound.own b.is_new);
        in_order = all-placed (λ d. AreInOrder d.activation) slot x t.devices (omega (arith, b.next)) b.in_order sound.in_order;
      }

-- ---- one of these

-- a record passes on the grants of its device, or brings a new device and uses up no mark
abbrev pub Changes : TableState → ℕ → Device → List Mark → Type 0
Changes t slot x marks = Regrants t slot x marks ⊎ (Brings t slot x × (marks ≡ []))

pub moves_changed : (t : TableState) (slot : ℕ) (x : Device) (marks : List Mark) → Changes t slot x marks → Moves Covers t (with_record t slot x) marks
moves_changed t slot x marks (inl r) = moves_used t slot x marks r
moves_changed t slot x marks (inr (b, none)) = subst (λ ms. Moves Covers t (with_record t slot x) ms) (sym none) (moves_new t slot x b)

pub sound_changed : (t : TableState) (slot : ℕ) (x : Device) (marks : List Mark) → Changes t slot x marks → IsSound t → IsSound (with_record t slot x)
sound_changed t slot x marks (inl r) sound = sound_used t slot x marks r sound
sound_changed t slot x marks (inr (b, none)) sound = sound_new t slot x b sound
