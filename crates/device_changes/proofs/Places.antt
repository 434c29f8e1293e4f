-- The places of names in a list with more devices after it.
use Rattle.std.proofs.Common.{◌≡◌, ◌<◌, ◌+◌, ◌∙◌, ℕ, suc, zero, cond, nat_eq, List, [], ◌∷◌, ◌++◌, length, Some, None, ap, sym, subst, arith}
use Rattle.std.specs.List.{slice_get}
use Rattle.std.specs.Option.{MatchOption}
use Rattle.std.proofs.lemmas.Option.{none-some, slice_get_past}
use Rattle.devices.specs.declared.device.Device.{Device}
use Rattle.sessions.specs.Table.{CanPlace, TableState, TakesNext, slot_of}
use Rattle.sessions.proofs.Slots.{place, split}

abbrev pub name : Device → ℕ
name d = d.dev_eui.0

-- a device that is found is found at the same place in a longer list
pub place-longer : (e i k : ℕ) (xs ys : List Device) → place name e i xs ≡ Some k → place name e i (xs ++ ys) ≡ Some k
place-longer e i k [] ys at = absurd (none-some k at)
place-longer e i k (x ∷ xs) ys at =
    split (nat_eq (name x) e)
    (λ here.
    ap (λ b. cond b (Some i) (place name e (i + 1) (xs ++ ys))) here
    ∙ (sym (ap (λ b. cond b (Some i) (place name e (i + 1) xs)) here) ∙ at))
    (λ there.
    ap (λ b. cond b (Some i) (place name e (i + 1) (xs ++ ys))) there
    ∙ place-longer e (i + 1) k xs ys (sym (ap (λ b. cond b (Some i) (place name e (i + 1) xs)) there) ∙ at))

-- a name that is in neither list is not in both together
pub place-none : (e i : ℕ) (xs ys : List Device) → place name e i xs ≡ None → ((j : ℕ) → place name e j ys ≡ None) → place name e i (xs ++ ys) ≡ None
place-none e i [] ys none others = others i
place-none e i (x ∷ xs) ys none others =
    split (nat_eq (name x) e)
    (λ here. absurd (none-some i (sym none ∙ ap (λ b. cond b (Some i) (place name e (i + 1) xs)) here)))
    (λ there.
    ap (λ b. cond b (Some i) (place name e (i + 1) (xs ++ ys))) there
    ∙ place-none e (i + 1) xs ys (sym (ap (λ b. cond b (Some i) (place name e (i + 1) xs)) there) ∙ none) others)

pub slice_get-longer : (k : ℕ) (xs ys : List Device) (x : Device) → slice_get xs k ≡ Some x → slice_get (xs ++ ys) k ≡ Some x
slice_get-longer k [] ys x at = absurd (none-some x at)
slice_get-longer zero (y ∷ xs) ys x at = at
slice_get-longer (suc k) (y ∷ xs) ys x at = slice_get-longer k xs ys x at

pub slice_get-after : (k : ℕ) (xs ys : List Device) → slice_get (xs ++ ys) (length xs + k) ≡ slice_get ys k
slice_get-after k [] ys = ap (slice_get ys) (let e : 0 + k ≡ k = omega arith in e)
slice_get-after k (x ∷ xs) ys =
    ap (slice_get (x ∷ (xs ++ ys))) (let e : suc (length xs) + k ≡ suc (length xs + k) = omega arith in e) ∙ slice_get-after k xs ys

-- the next slot takes a device that isn't in the table yet
pub can_place-next : (t : TableState) (slot : ℕ) (x : Device) → slot ≡ length t.devices → slot < t.slots → slot_of (name x) t.devices ≡ None → CanPlace t slot x
can_place-next t slot x next free new =
    subst (λ o. MatchOption o (TakesNext t slot x) (λ old. old.dev_eui ≡ x.dev_eui)) (sym (slice_get_past t.devices slot (omega (arith, next)))) (next, free, new)
