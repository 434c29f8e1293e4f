-- Rows without a fault.
use Rattle.std.proofs.Common.{◌≡◌, ◌<◌, ◌+◌, ◌∙◌, ℕ, Bool, true, false, suc, zero, cond, nat_eq, nat_lt, List, [], ◌∷◌, ◌++◌, length, map, Option, Some, None, ap, refl, sym, subst, arith}
use Rattle.std.specs.List.{slice_get}
use Rattle.std.specs.Prelude.{Contains, ◌||◌, slice_index_or}
use Rattle.std.proofs.lemmas.Bool.{ltb-true, true≢false}
use Rattle.std.proofs.lemmas.Option.{none-some}
use Rattle.std.proofs.lemmas.List.{length-map, length-append}
use Rattle.std.proofs.lemmas.List.Elements.{filter_map-append}
use Rattle.devices.specs.declared.device.Device.{Device}
use Rattle.sessions.specs.Table.{TableState, slot_of}
use Rattle.sessions.proofs.Restoring.{same_place}
use Rattle.sessions.proofs.Slots.{place}
use Rattle.device_changes.specs.Change.{is_named}
use Rattle.device_changes.specs.Device.{imported_device}
use Rattle.device_changes.specs.Faults.{change_fault, row_fault, faults_after, faulty, import_fault}
use Rattle.device_changes.specs.Table.{changed_by, imported_devices, imported_in, CanTake}
use Rattle.device_changes.specs.declared.change.Change.{Change}
use Rattle.device_changes.specs.declared.change.Change.TheVariants.{Import, Amend, Retire}
use Rattle.device_changes.specs.declared.change.Importing.{Importing}
use Rattle.device_changes.specs.declared.fault.RowFault.{RowFault}
use Rattle.device_changes.specs.declared.fault.RowFault.TheVariants.{Repeated, DevEuiTaken, TableFull}
use Rattle.device_changes.specs.declared.fault.FaultyRow.{FaultyRow}
use Rattle.device_changes.proofs.Follows.{follows}
use Rattle.device_changes.proofs.Places.{name, place-none}

-- ---- no fault in a list is no fault in each row

no_cons : {A : Type 0} (x : A) (xs : List A) → x ∷ xs ≡ [] → ⊥
no_cons x xs e = cc

split_faults : (row : ℕ) (o : Option RowFault) (rest : List FaultyRow) → faulty row o ++ rest ≡ [] → (o ≡ None) × (rest ≡ [])
split_faults row None rest none = (refl, none)
split_faults row (Some fault) rest none = absurd (no_cons _ rest none)

pub none_in : (t : TableState) (earlier : List Change) (c : Change) (rows : List Change) → faults_after t earlier (c ∷ rows) ≡ []
    → (row_fault t earlier c ≡ None) × (faults_after t (earlier ++ c ∷ []) rows ≡ [])
none_in t earlier c rows none = split_faults (length earlier) (row_fault t earlier c) (faults_after t (earlier ++ c ∷ []) rows) none

not_repeated : (b : Bool) (o : Option RowFault) → cond b (Some Repeated) o ≡ None → (b ≡ false) × (o ≡ None)
not_repeated true o none = absurd (none-some Repeated (sym none))
not_repeated false o none = (refl, none)

has_room : (b : Bool) → cond b None (Some TableFull) ≡ None → b ≡ true
has_room true none = refl
has_room false none = absurd (none-some TableFull (sym none))

is_new : (t : TableState) (n : ℕ) (o : Option ℕ) → import_fault t n o ≡ None → (o ≡ None) × (length t.devices + n < t.slots)
is_new t n (Some taken) none = absurd (none-some DevEuiTaken (sym none))
is_new t n None none = (refl, ltb-true (length t.devices + n) t.slots (has_room (nat_lt (length t.devices + n) t.slots) none))

-- ---- the next slot takes an import without a fault

neither : (a b : Bool) → (a || b) ≡ false → (a ≡ false) × (b ≡ false)
neither true b none = absurd (true≢false none)
neither false b none = (refl, none)

-- a name that no row has is not among the imported devices
unnamed : (e i : ℕ) (rows : List Change) → is_named rows e ≡ false → place name e i (imported_devices rows) ≡ None
unnamed e i [] none = refl
unnamed e i (Import x ∷ rows) none =
    let both = neither (nat_eq x.provisioning.dev_eui.0 e) (is_named rows e) none in
    ap (λ b. cond b (Some i) (place name e (i + 1) (imported_devices rows))) both.0 ∙ unnamed e (i + 1) rows both.1
unnamed e i (Amend x ∷ rows) none = unnamed e i rows (neither (nat_eq x.dev_eui.0 e) (is_named rows e) none).1
unnamed e i (Retire x ∷ rows) none = unnamed e i rows (neither (nat_eq x.dev_eui.0 e) (is_named rows e) none).1

-- the devices of a table in which changes were made so far
abbrev pub devices_after : List Change → TableState → List Change → List Device
devices_after rows t earlier = map (changed_by rows) t.devices ++ imported_devices earlier

takes : (rows : List Change) (t : TableState) (earlier : List Change) (i : Importing) → row_fault t earlier (Import i) ≡ None
    → (length (devices_after rows t earlier) < t.slots) × (slot_of i.provisioning.dev_eui.0 (devices_after rows t earlier) ≡ None)
takes rows t earlier i none =
    let e = i.provisioning.dev_eui.0 in
    let first = not_repeated (is_named earlier e) (change_fault t earlier (Import i)) none in
    let new = is_new t (length (imported_devices earlier)) (slot_of e t.devices) first.1 in
    let long : length (devices_after rows t earlier) ≡ length t.devices + length (imported_devices earlier) =
    length-append (map (changed_by rows) t.devices) (imported_devices earlier) ∙ ap (λ n. n + length (imported_devices earlier)) (length-map t.devices (changed_by rows)) in (
      subst (λ n. n < t.slots) (sym long) new.1,
      place-none e 0 (map (changed_by rows) t.devices) (imported_devices earlier)
          (same_place (changed_by rows) (λ d. (follows rows d).name) e 0 t.devices ∙ new.0) (λ j. unnamed e j earlier first.0),
    )

pub can_take : (rows : List Change) (t : TableState) (earlier : List Change) (c : Change) → row_fault t earlier c ≡ None
    → CanTake (record t { devices = devices_after rows t earlier }) c
can_take rows t earlier (Import i) none = takes rows t earlier i none
can_take rows t earlier (Amend a) none = tt
can_take rows t earlier (Retire r) none = tt

-- ---- one row more

pub imported-more : (earlier : List Change) (c : Change) → imported_devices (earlier ++ c ∷ []) ≡ imported_devices earlier ++ imported_devices (c ∷ [])
imported-more earlier c = filter_map-append imported_in earlier (c ∷ [])

-- an import is among the imported devices
pub is-imported : (rows : List Change) (i : Importing) → Contains rows (Import i) → (j : ℕ) × (slice_get (imported_devices rows) j ≡ Some (imported_device i))
is-imported rows i has = at rows has.0 has.1 has.2
  where
    here : (c : Change) (rest : List Change) → c ≡ Import i → (j : ℕ) × (slice_get (imported_devices (c ∷ rest)) j ≡ Some (imported_device i))
    here c rest is = (0, ap (λ (x : Change). slice_get (imported_devices (x ∷ rest)) 0) is)

    later : (c : Change) (rest : List Change) → (j : ℕ) × (slice_get (imported_devices rest) j ≡ Some (imported_device i))
        → (j : ℕ) × (slice_get (imported_devices (c ∷ rest)) j ≡ Some (imported_device i))
    later (Import x) rest found = (suc found.0, found.1)
    later (Amend x) rest found = found
    later (Retire x) rest found = found

    at : (rows : List Change) (k : ℕ) → k < length rows → slice_index_or rows k (Import i) ≡ Import i
        → (j : ℕ) × (slice_get (imported_devices rows) j ≡ Some (imported_device i))
    at [] k within is = absurd (omega (arith, within))
    at (c ∷ rest) zero within is = here c rest is
    at (c ∷ rest) (suc k) within is = later c rest (at rest k (omega (arith, within)) is)
