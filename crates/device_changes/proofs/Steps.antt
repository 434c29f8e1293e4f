-- One more row or device in a loop.
use Rattle.std.proofs.Common.{◌≡◌, ◌<◌, ◌+◌, ◌∙◌, ℕ, suc, List, [], ◌∷◌, ◌++◌, length, get_or, map, take, drop, sum_by, Some, None, ap, refl, sym, arith, append_assoc, drop-cons}
use Rattle.std.specs.List.{slice_get}
use Rattle.std.proofs.lemmas.List.{length-append, length-map, length-take-le, map-append, take_more}
use Rattle.std.proofs.lemmas.List.Sums.{sum_by-append}
use Rattle.std.proofs.lemmas.Option.{slice_get-get_or}
use Rattle.devices.specs.declared.device.Device.{Device}
use Rattle.sessions.specs.Index.{HaveOwnSlots}
use Rattle.sessions.specs.Table.{CanPlace, TableState, slot_of, with_record}
use Rattle.sessions.proofs.Placing.{at_end}
use Rattle.sessions.proofs.Restoring.{same_place}
use Rattle.sessions.proofs.Slots.{place-take}
use Rattle.device_changes.specs.Faults.{row_fault, faults_after, faulty}
use Rattle.device_changes.specs.Table.{CanTake, changed_by, grown_table, imported_devices}
use Rattle.device_changes.specs.Waiting.{waiting_for}
use Rattle.device_changes.specs.declared.change.Change.{Change}
use Rattle.device_changes.specs.declared.fault.FaultyRow.{FaultyRow}
use Rattle.device_changes.proofs.Follows.{follows}
use Rattle.device_changes.proofs.Places.{can_place-next, name}
use Rattle.device_changes.proofs.Rows.{can_take, devices_after, imported-more, none_in}

-- the element at n ends the first n + 1 elements, and begins the rest
take-next : {A : Type 0} (xs : List A) (n : ℕ) (x : A) → n < length xs → x ≡ get_or xs n x → take (n + 1) xs ≡ take n xs ++ x ∷ []
take-next xs n x within is = take_more xs n x within ∙ ap (λ y. take n xs ++ y ∷ []) (sym is)

drop-next : {A : Type 0} (xs : List A) (n : ℕ) (x : A) → n < length xs → x ≡ get_or xs n x → drop n xs ≡ x ∷ drop (n + 1) xs
drop-next xs n x within is =
    drop-cons xs n x within ∙ (ap (λ y. y ∷ drop (suc n) xs) (sym is) ∙ ap (λ k. x ∷ drop k xs) (let e : suc n ≡ n + 1 = omega arith in e))

-- ---- rows

pub imports-more : (rows : List Change) (n : ℕ) (c : Change) → n < length rows → c ≡ get_or rows n c
    → length (imported_devices (take (n + 1) rows)) ≡ length (imported_devices (take n rows)) + length (imported_devices (c ∷ []))
imports-more rows n c within is =
    ap (λ l. length (imported_devices l)) (take-next rows n c within is)
    ∙ (ap length (imported-more (take n rows) c) ∙ length-append (imported_devices (take n rows)) (imported_devices (c ∷ [])))

pub faults-more : (t : TableState) (rows : List Change) (n : ℕ) (c : Change) (found found' all : List FaultyRow) → n < length rows → c ≡ get_or rows n c
    → found ++ faults_after t (take n rows) (drop n rows) ≡ all → found' ≡ found ++ faulty n (row_fault t (take n rows) c)
    → found' ++ faults_after t (take (n + 1) rows) (drop (n + 1) rows) ≡ all
faults-more t rows n c found found' all within is before more =
    let long : length (take n rows) ≡ n = length-take-le n rows (omega (arith, within)) in
    let rest = faults_after t (take n rows ++ c ∷ []) (drop (n + 1) rows) in
    ap (λ l. l ++ faults_after t (take (n + 1) rows) (drop (n + 1) rows)) more
    ∙ (ap (λ e. (found ++ faulty n (row_fault t (take n rows) c)) ++ faults_after t e (drop (n + 1) rows)) (take-next rows n c within is)
    ∙ (append_assoc found (faulty n (row_fault t (take n rows) c)) rest
    ∙ (ap (λ k. found ++ (faulty k (row_fault t (take n rows) c) ++ rest)) (sym long)
    ∙ (ap (λ l. found ++ faults_after t (take n rows) l) (sym (drop-next rows n c within is)) ∙ before))))

-- ---- devices that are changed

module _ (rows : List Change) (t : TableState) (slots n : ℕ) (d e : Device) (own : HaveOwnSlots t.devices) (within : n < length t.devices) (item : d ≡ get_or t.devices n d) (is : e ≡ changed_by rows d) where
  abbrev so_far : ℕ → TableState
  so_far k = record t { slots = slots; devices = map (changed_by rows) (take k t.devices) }

  long : n ≡ length (map (changed_by rows) (take n t.devices))
  long = sym (length-map (take n t.devices) (changed_by rows) ∙ length-take-le n t.devices (omega (arith, within)))

  at : slice_get t.devices n ≡ Some d
  at = slice_get-get_or t.devices n d within ∙ ap Some (sym item)

  same_name : name e ≡ name d
  same_name = ap name is ∙ (follows rows d).name

  new : slot_of (name e) (map (changed_by rows) (take n t.devices)) ≡ None
  new =
      ap (λ k. slot_of k (map (changed_by rows) (take n t.devices))) same_name
      ∙ (same_place (changed_by rows) (λ d. (follows rows d).name) (name d) 0 (take n t.devices)
      ∙ place-take name (name d) 0 n t.devices (own n d at ∙ ap Some (let e : n ≡ 0 + n = omega arith in e)))

  pub can_place : n < slots → CanPlace (so_far n) n e
  can_place free = can_place-next (so_far n) n e long free new

  pub placed : with_record (so_far n) n e ≡ so_far (n + 1)
  placed =
      let changed = map (changed_by rows) (take n t.devices) in
      let then_is : changed ++ e ∷ [] ≡ map (changed_by rows) (take (n + 1) t.devices) =
      ap (λ x. changed ++ x ∷ []) is
      ∙ (sym (map-append (changed_by rows) (take n t.devices) (d ∷ [])) ∙ ap (map (changed_by rows)) (sym (take-next t.devices n d within item))) in
      ap (λ (ds : List Device). let left : TableState = record t { slots = slots; devices = ds } in left) (at_end n e changed long ∙ then_is)

-- ---- imports

module _ (rows : List Change) (t : TableState) (n : ℕ) (c : Change) (within : n < length rows) (item : c ≡ get_or rows n c) (none : faults_after t (take n rows) (drop n rows) ≡ []) where
  after : (row_fault t (take n rows) c ≡ None) × (faults_after t (take n rows ++ c ∷ []) (drop (n + 1) rows) ≡ [])
  after = none_in t (take n rows) c (drop (n + 1) rows) (ap (faults_after t (take n rows)) (sym (drop-next rows n c within item)) ∙ none)

  pub next_can : CanTake (record t { devices = devices_after rows t (take n rows) }) c
  next_can = can_take rows t (take n rows) c after.0

  pub next_none : faults_after t (take (n + 1) rows) (drop (n + 1) rows) ≡ []
  next_none = ap (λ l. faults_after t l (drop (n + 1) rows)) (take-next rows n c within item) ∙ after.1

  pub next_devices : devices_after rows t (take n rows) ++ imported_devices (c ∷ []) ≡ devices_after rows t (take (n + 1) rows)
  next_devices =
      let changed = map (changed_by rows) t.devices in
      append_assoc changed (imported_devices (take n rows)) (imported_devices (c ∷ []))
      ∙ ap (λ l. changed ++ l) (sym (imported-more (take n rows) c) ∙ ap imported_devices (sym (take-next rows n c within item)))

-- ---- a table that only grows

kept : (devices : List Device) → map (changed_by []) devices ≡ devices
kept [] = refl
kept (d ∷ devices) = ap (λ l. d ∷ l) (kept devices)

pub only_grown : (slots : ℕ) (t : TableState) → record t { slots = slots; devices = map (changed_by []) t.devices } ≡ grown_table slots t
only_grown slots t = ap (λ (ds : List Device). let left : TableState = record t { slots = slots; devices = ds } in left) (kept t.devices)

-- ---- items that wait

waiting_one : (d : Device) → sum_by waiting_for (d ∷ []) ≡ waiting_for d
waiting_one d = omega arith

pub waiting-more : (devices : List Device) (n : ℕ) (d : Device) → n < length devices → d ≡ get_or devices n d
    → sum_by waiting_for (take (n + 1) devices) ≡ sum_by waiting_for (take n devices) + waiting_for d
waiting-more devices n d within item =
    ap (sum_by waiting_for) (take-next devices n d within item)
    ∙ (sum_by-append waiting_for (take n devices) (d ∷ []) ∙ ap (λ k. sum_by waiting_for (take n devices) + k) (waiting_one d))
