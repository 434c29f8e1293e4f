-- The devices of a table after a record is placed, from those before.
use Rattle.std.proofs.Common.{◌<◌, ◌≤◌, ◌≢◌, ◌≡◌, ◌↔◌, ◌+◌, ◌∙◌, ℕ, suc, zero, true, cond, List, [], ◌∷◌, ◌++◌, length, take, drop, Option, Some, None, nat_eq, get_or, sym, ap, refl, arith, subst}
use Rattle.std.specs.List.{slice_get}
use Rattle.std.specs.Option.{MatchOption}
use Rattle.std.proofs.lemmas.Bool.{eq-eqb, ne_eqb}
use Rattle.std.proofs.lemmas.List.{take_all, drop_all, length_push}
use Rattle.std.proofs.lemmas.Option.{none-some, same_Some, slice_get_within}
use Rattle.devices.specs.declared.device.Device.{Device}
use Rattle.sessions.specs.Table.{TableState, CanPlace, TakesNext, with_record, slot_of, with_device}
use Rattle.lw_types.specs.declared.identifiers.Eui.{Eui}
use Rattle.sessions.specs.Decision.{FitAll, HasPlace, with_decision, with_decisions}
use Rattle.sessions.specs.Index.{HaveOwnSlots}
use Rattle.sessions.specs.declared.decision.Decision.{Decision}
use Rattle.sessions.proofs.Slots.{own_names-pushed, own_names-replaced, place, place-found, place-pushed, place-replaced, split}
use Rattle.sessions.proofs.Runs.{CanPlace-fits, FitAll-next, applied_all-next}

abbrev name : Device → ℕ
name d = d.dev_eui.0

-- a record that may be placed is one of its own device, at a slot in use, or of a new device, at
-- the next slot
by_slot : (t : TableState) (slot : ℕ) (x : Device) → CanPlace t slot x → (P : Type 0)
    → ((old : Device) → slice_get t.devices slot ≡ Some old → old.dev_eui ≡ x.dev_eui → P)
    → (slice_get t.devices slot ≡ None → TakesNext t slot x → P) → P
by_slot t slot x can P used next = at (slice_get t.devices slot) refl can
  where
    at : (o : Option Device) → slice_get t.devices slot ≡ o → MatchOption o (TakesNext t slot x) (λ old. old.dev_eui ≡ x.dev_eui) → P
    at (Some old) is same = used old is same
    at None is new = next is new

-- the next slot takes a record at the end
pub at_end : (n : ℕ) (x : Device) (xs : List Device) → n ≡ length xs → with_device n x xs ≡ xs ++ x ∷ []
at_end n x xs last =
    ap (λ front. front ++ x ∷ drop (suc n) xs) (take_all n xs (omega arith)) ∙ ap (λ rest. xs ++ x ∷ rest) (drop_all (suc n) xs (omega arith))

pub get-new : (n : ℕ) (x : Device) (xs : List Device) → n ≤ length xs → slice_get (with_device n x xs) n ≡ Some x
get-new zero x xs within = refl
get-new (suc n) x [] within = absurd (omega arith)
get-new (suc n) x (y ∷ ys) within = get-new n x ys (omega arith)

pub get-other : (n k : ℕ) (x : Device) (xs : List Device) → n ≤ length xs → n ≢ k → slice_get (with_device n x xs) k ≡ slice_get xs k
get-other zero zero x xs within apart = absurd (apart refl)
get-other zero (suc k) x [] within apart = refl
get-other zero (suc k) x (y ∷ ys) within apart = refl
get-other (suc n) k x [] within apart = absurd (omega arith)
get-other (suc n) zero x (y ∷ ys) within apart = refl
get-other (suc n) (suc k) x (y ∷ ys) within apart = get-other n k x ys (omega arith) (λ e. apart (ap suc e))

length-replaced : (n : ℕ) (x old : Device) (xs : List Device) → slice_get xs n ≡ Some old → length (with_device n x xs) ≡ length xs
length-replaced n x old [] at = absurd (none-some old at)
length-replaced zero x old (y ∷ ys) at = refl
length-replaced (suc n) x old (y ∷ ys) at = ap suc (length-replaced n x old ys at)

-- a slot at which a record may be placed is in use or the next one
within_slots : (t : TableState) (slot : ℕ) (x : Device) → CanPlace t slot x → slot ≤ length t.devices
within_slots t slot x can =
    by_slot t slot x can (slot ≤ length t.devices)
    (λ old at same. let within = slice_get_within t.devices slot old at in omega arith)
    (λ none next. omega (arith, next.0))

-- a name that occurs is found
is-found : (e i n : ℕ) (old : Device) (xs : List Device) → slice_get xs n ≡ Some old → name old ≡ e → place name e i xs ≢ None
is-found e i n old [] at is none = absurd (none-some old at)
is-found e i zero old (y ∷ ys) at is none =
    let here : nat_eq (name y) e ≡ true = eq-eqb (name y) e (ap name (same_Some y old at) ∙ is) in
    none-some i (sym none ∙ ap (λ b. cond b (Some i) (place name e (i + 1) ys)) here)
is-found e i (suc n) old (y ∷ ys) at is none =
    split (nat_eq (name y) e)
    (λ here. none-some i (sym none ∙ ap (λ b. cond b (Some i) (place name e (i + 1) ys)) here))
    (λ there. is-found e (i + 1) n old ys at is (sym (ap (λ b. cond b (Some i) (place name e (i + 1) ys)) there) ∙ none))

-- a name is new after a record was placed if it was new before and isn't the record's
new-placed : (t : TableState) (slot e : ℕ) (x : Device) → CanPlace t slot x
    → (slot_of e (with_record t slot x).devices ≡ None) ↔ ((slot_of e t.devices ≡ None) × (name x ≢ e))
new-placed t slot e x can =
    by_slot t slot x can _
    (λ old at same.
    let named : name old ≡ name x = ap (λ (u : _). u.0) same in
    let kept : slot_of e (with_record t slot x).devices ≡ slot_of e t.devices = place-replaced name e 0 slot x old t.devices at named in (
      λ none. (sym kept ∙ none, λ is. is-found e 0 slot old t.devices at (named ∙ is) (sym kept ∙ none)),
      λ both. kept ∙ both.0,
    ))
    (λ none next.
    let pushed : slot_of e (with_record t slot x).devices ≡ cond (nat_eq (name x) e) (Some (0 + length t.devices)) (slot_of e t.devices) =
    ap (slot_of e) (at_end slot x t.devices next.0) ∙ place-pushed name e 0 x t.devices next.2 in (
      λ new. split (nat_eq (name x) e)
          (λ is. absurd (none-some (0 + length t.devices) (sym new ∙ (pushed ∙ ap (λ b. cond b (Some (0 + length t.devices)) (slot_of e t.devices)) is))))
          (λ other. (
            sym (ap (λ b. cond b (Some (0 + length t.devices)) (slot_of e t.devices)) other) ∙ (sym pushed ∙ new),
            λ is. let yes = eq-eqb (name x) e is in absurd (cc),
          )),
      λ both. pushed ∙ (ap (λ b. cond b (Some (0 + length t.devices)) (slot_of e t.devices)) (ne_eqb (name x) e both.1) ∙ both.0),
    ))

-- the same of the decisions of a list, one after another
module _ (t : TableState) (ds : List Decision) (n : ℕ) (d : Decision) (within : n < length ds) (item : d ≡ get_or ds n d) (fit : FitAll t ds) where
  abbrev pub left : TableState
  left = with_decisions t (take n ds)

  abbrev pub then_left : TableState
  then_left = with_decisions t (take (n + 1) ds)

  can : CanPlace left d.slot d.after
  can = CanPlace-fits left d (FitAll-next t n d ds within item fit)

  more : then_left ≡ with_decision left d
  more = applied_all-next t n d ds within item

  pub device-new : (k : ℕ) → d.slot ≡ k → slice_get then_left.devices k ≡ Some d.after
  device-new k here =
      ap (λ (x : TableState). slice_get x.devices k) more
      ∙ (ap (slice_get (with_decision left d).devices) (sym here) ∙ get-new d.slot d.after left.devices (within_slots left d.slot d.after can))

  pub device-other : (k : ℕ) → d.slot ≢ k → slice_get then_left.devices k ≡ slice_get left.devices k
  device-other k apart =
      ap (λ (x : TableState). slice_get x.devices k) more ∙ get-other d.slot k d.after left.devices (within_slots left d.slot d.after can) apart

  pub length-new : d.slot ≡ length left.devices → length then_left.devices ≡ length left.devices + 1
  length-new last =
      ap (λ (x : TableState). length x.devices) more ∙ (ap length (at_end d.slot d.after left.devices last) ∙ length_push left.devices d.after)

  pub length-same : d.slot ≢ length left.devices → length then_left.devices ≡ length left.devices
  length-same used =
      ap (λ (x : TableState). length x.devices) more
      ∙ by_slot left d.slot d.after can _ (λ old at same. length-replaced d.slot d.after old left.devices at) (λ none next. absurd (used next.0))

  pub new-more : (e : ℕ) → (slot_of e then_left.devices ≡ None) ↔ ((slot_of e left.devices ≡ None) × (name d.after ≢ e))
  new-more e =
      let step = new-placed left d.slot e d.after can in
      let is = ap (λ (x : TableState). slot_of e x.devices) more in
      (λ none. step.0 (sym is ∙ none), λ both. is ∙ step.1 both)

-- decisions leave the network and the number of slots
pub same_net : (t : TableState) (ds : List Decision) → (with_decisions t ds).net_id ≡ t.net_id
same_net t [] = refl
same_net t (d ∷ ds) = same_net (with_decision t d) ds

pub same_slots : (t : TableState) (ds : List Decision) → (with_decisions t ds).slots ≡ t.slots
same_slots t [] = refl
same_slots t (d ∷ ds) = same_slots (with_decision t d) ds

-- if each device of a table is found at its own slot, so is each device after decisions
own-placed : (t : TableState) (slot : ℕ) (x : Device) → CanPlace t slot x → HaveOwnSlots t.devices → HaveOwnSlots (with_record t slot x).devices
own-placed t slot x can own =
    by_slot t slot x can (HaveOwnSlots (with_record t slot x).devices)
    (λ old at same. own_names-replaced name slot x old t.devices own at (ap (λ (u : Eui). u.0) same))
    (λ none next. subst (λ ds. HaveOwnSlots ds) (sym (at_end slot x t.devices next.0)) (own_names-pushed name x t.devices own next.2))

pub own-left : (t : TableState) (ds : List Decision) → FitAll t ds → HaveOwnSlots t.devices → HaveOwnSlots (with_decisions t ds).devices
own-left t [] fit own = own
own-left t (d ∷ ds) fit own = own-left (with_decision t d) ds fit.1 (own-placed t d.slot d.after (CanPlace-fits t d fit.0) own)

-- so a record that they leave is found at its slot
pub has-own-place : (t : TableState) (ds : List Decision) (slot : ℕ) (after device : Device) (before : Option Device) → FitAll t ds → HaveOwnSlots t.devices
    → before ≡ slice_get (with_decisions t ds).devices slot → before ≡ Some device → HasPlace (with_decisions t ds) slot after before
has-own-place t ds slot after device before fit own found is =
    subst (HasPlace (with_decisions t ds) slot after) (sym is) (own-left t ds fit own slot device (sym found ∙ is))

-- a device that is found by its name is in the list and has the name
pub found_name : (e : ℕ) (slot : ℕ) (d : Device) (devices : List Device) → slot_of e devices ≡ Some slot → slice_get devices slot ≡ Some d → d.dev_eui.0 ≡ e
found_name e slot d devices found at =
    let f = place-found name e 0 devices slot found in
    let here : f.0 ≡ slot = (let h = f.2 in omega arith) in
    ap name (sym (same_Some f.1 d (sym f.3 ∙ (ap (slice_get devices) here ∙ at)))) ∙ f.4

pub found_within : (e : ℕ) (slot : ℕ) (devices : List Device) → slot_of e devices ≡ Some slot → slot < length devices
found_within e slot devices found =
    let f = place-found name e 0 devices slot found in
    let within = slice_get_within devices f.0 f.1 f.3 in
    let here : slot ≡ f.0 = (let h = f.2 in omega arith) in
    omega arith
