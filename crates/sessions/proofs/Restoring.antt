-- A restored table rules out what was used up before.
use Rattle.std.proofs.Common.{◌≡◌, ◌≤◌, ◌+◌, ◌∙◌, ℕ, List, [], ◌∷◌, ◌++◌, length, map, set, take, drop, zero, suc, Option, Some, None, cond, nat_eq, sym, ap, refl, arith}
use Rattle.std.specs.Prelude.{All, Bool, true, false, not, option_map, slice_get, slice_index_or, unwrap_or}
use Rattle.std.specs.List.{find, position_from}
use Rattle.std.proofs.lemmas.Bool.{true≢false}
use Rattle.std.proofs.lemmas.List.Elements.{All-map}
use Rattle.std.proofs.lemmas.List.{append-nil, drop_all, take_all}
use Rattle.std.proofs.lemmas.Option.{none-some, same_Some, slice_get-map}
use Rattle.devices.specs.Activation.{AreInOrder, Grants}
use Rattle.devices.specs.Restored.{has_grants_left, restored_device, restored_grants}
use Rattle.devices.specs.declared.device.Device.{Device}
use Rattle.devices.specs.declared.mark.Mark.{Mark}
use Rattle.devices.specs.declared.mark.Mark.TheVariants.{Forwarded, Granted, Sent}
use Rattle.sessions.specs.Index.{HaveOwnSlots}
use Rattle.sessions.specs.Marks.{Covers, GrantsCover, IsSound, session_in}
use Rattle.sessions.specs.Restored.{restored_table, IsSince}
use Rattle.sessions.specs.Table.{TableState, slot_of}
use Rattle.sessions.proofs.Slots.{split}

-- if each device keeps its name, each name keeps its place
module _ (f : Device → Device) (keeps : (d : Device) → (f d).dev_eui.0 ≡ d.dev_eui.0) where
  pub same_place : (dev_eui i : ℕ) (devices : List Device)
      → position_from (λ d. nat_eq d.dev_eui.0 dev_eui) i (map f devices) ≡ position_from (λ d. nat_eq d.dev_eui.0 dev_eui) i devices
  same_place dev_eui i [] = refl
  same_place dev_eui i (d ∷ devices) =
      ap (λ n. cond (nat_eq n dev_eui) (Some i) (position_from (λ d. nat_eq d.dev_eui.0 dev_eui) (i + 1) (map f devices))) (keeps d)
      ∙ ap (cond (nat_eq d.dev_eui.0 dev_eui) (Some i)) (same_place dev_eui (i + 1) devices)

  -- what is at a slot was there before
  was_there : (o : Option Device) (d : Device) → option_map f o ≡ Some d → (old : Device) × ((o ≡ Some old) × (f old ≡ d))
  was_there None d e = absurd (none-some d e)
  was_there (Some old) d e = (old, (refl, same_Some (f old) d e))

  pub own_slots : (devices : List Device) → HaveOwnSlots devices → HaveOwnSlots (map f devices)
  own_slots devices own slot d at =
      let old = was_there (slice_get devices slot) d (sym (slice_get-map f devices slot) ∙ at) in
      let name : old.0.dev_eui.0 ≡ d.dev_eui.0 = sym (keeps old.0) ∙ ap (λ (x : Device). x.dev_eui.0) old.1.1 in
      ap (λ e. slot_of e (map f devices)) (sym name) ∙ (same_place old.0.dev_eui.0 0 devices ∙ own slot old.0 old.1.0)

covered : (since : ℕ) (g : Grants) (m : Mark) → (session_in m).join_nonce ≤ unwrap_or g.granted 0 + since → GrantsCover (restored_grants since g) m
covered since g (Forwarded session counter) within = record { granted = within; begun = tt; past = tt }
covered since g (Granted session) within = within
covered since g (Sent session counter) within = record { granted = within; begun = tt; past = tt }

covers_one : (since : ℕ) (t : TableState) (m : Mark) → IsSince since t m → Covers (restored_table since t) m
covers_one since t m is =
    record {
      slot = is.slot;
      device = restored_device since is.device;
      own = same_place (restored_device since) (λ d. refl) (session_in m).dev_eui.0 0 t.devices ∙ is.own;
      at = slice_get-map (restored_device since) t.devices is.slot ∙ ap (option_map (restored_device since)) is.at;
      grants = covered since is.device.activation m is.within;
    }

pub covers_all : (since : ℕ) (t : TableState) (marks : List Mark) → All (λ m. IsSince since t m) marks → All (λ m. Covers (restored_table since t) m) marks
covers_all since t marks all = λ k d within. covers_one since t _ (all k d within)

in_order : (since : ℕ) (g : Grants) → AreInOrder (restored_grants since g)
in_order since g = record { current = omega arith; pending = tt; later = tt }

pub sound : (since : ℕ) (t : TableState) → HaveOwnSlots t.devices → IsSound (restored_table since t)
sound since t own =
    record {
      own = own_slots (restored_device since) (λ d. refl) t.devices own;
      in_order = All-map (λ (d : Device). AreInOrder d.activation) (restored_device since) t.devices (λ k d within. in_order since (slice_index_or t.devices k d).activation);
    }

-- ---- one device after another

-- the first n devices are restored
abbrev pub restored_up_to : ℕ → ℕ → List Device → List Device
restored_up_to since n devices = map (restored_device since) (take n devices) ++ drop n devices

pub next_restored : (since n : ℕ) (devices : List Device) (d : Device) → slice_get devices n ≡ Some d
    → set (restored_up_to since n devices) n (restored_device since d) ≡ restored_up_to since (suc n) devices
next_restored since n [] d at = absurd (none-some d at)
next_restored since zero (x ∷ devices) d at = ap (λ y. restored_device since y ∷ devices) (sym (same_Some x d at))
next_restored since (suc n) (x ∷ devices) d at = ap (λ l. restored_device since x ∷ l) (next_restored since n devices d at)

pub still_there : (since n : ℕ) (devices : List Device) → slice_get (restored_up_to since n devices) n ≡ slice_get devices n
still_there since zero [] = refl
still_there since (suc n) [] = refl
still_there since zero (x ∷ devices) = refl
still_there since (suc n) (x ∷ devices) = still_there since n devices

pub still_long : (since n : ℕ) (devices : List Device) → length (restored_up_to since n devices) ≡ length devices
still_long since zero devices = refl
still_long since (suc n) [] = refl
still_long since (suc n) (x ∷ devices) = ap suc (still_long since n devices)

pub all_restored : (since n : ℕ) (devices : List Device) → length devices ≤ n → restored_up_to since n devices ≡ map (restored_device since) devices
all_restored since n devices past =
    ap (λ l. map (restored_device since) l ++ drop n devices) (take_all n devices past)
    ∙ (ap (λ l. map (restored_device since) devices ++ l) (drop_all n devices past) ∙ append-nil (map (restored_device since) devices))

-- ---- none of them is spent

pub unfound : {X Y : Type 0} (f : X → Y) (o : Option X) → option_map f o ≡ None → o ≡ None
unfound f None e = refl
unfound f (Some x) e = absurd (none-some (f x) (sym e))

passes : (b : Bool) → not b ≡ false → b ≡ true
passes true e = refl
passes false e = absurd (true≢false e)

none_at : {X : Type 0} (test : X → Bool) (y : X) (xs : List X) (x : X) → test y ≡ false → ((k : ℕ) → slice_get xs k ≡ Some x → test x ≡ false)
    → (n : ℕ) → slice_get (y ∷ xs) n ≡ Some x → test x ≡ false
none_at test y xs x other rest zero at = ap test (sym (same_Some y x at)) ∙ other
none_at test y xs x other rest (suc n) at = rest n at

none_found : {X : Type 0} (test : X → Bool) (xs : List X) (n : ℕ) (x : X) → find test xs ≡ None → slice_get xs n ≡ Some x → test x ≡ false
none_found test [] n x none at = absurd (none-some x at)
none_found test (y ∷ xs) n x none at =
    split (test y)
    (λ found. absurd (none-some y (sym none ∙ ap (λ b. cond b (Some y) (find test xs)) found)))
    (λ other. none_at test y xs x other (λ k. none_found test xs k x (sym (ap (λ b. cond b (Some y) (find test xs)) other) ∙ none)) n at)

pub has_left : (since : ℕ) (devices : List Device) (n : ℕ) (d : Device) → find (λ d. not (has_grants_left since d.activation)) devices ≡ None
    → slice_get devices n ≡ Some d → has_grants_left since d.activation ≡ true
has_left since devices n d none at = passes (has_grants_left since d.activation) (none_found (λ d. not (has_grants_left since d.activation)) devices n d none at)
