-- The waiting groups refuse a copy or take it.
use Rattle.std.proofs.Common.{◌≡◌, ℕ, zero, suc, ◌+◌, ◌≤◌, ◌<◌, Bool, true, false, cond, not, List, [], ◌∷◌, ◌++◌, length, map, filter, take, drop, get_or, refl, sym, ap, subst, ◌∙◌, arith, Ok, Err, Some, None, ◌||◌, ◌&&◌, true≢false}
use Rattle.std.specs.Prelude.{nat_lt, nat_le, bytes_eq, All, AllPairs, Contains, Result}
use Rattle.std.specs.List.{list_any}
use Rattle.std.specs.Result.{result_err}
use Rattle.std.specs.Cmp.Lexicographic.{bytes_decides}
use Rattle.std.proofs.lemmas.List.{take-append-drop}
use Rattle.std.proofs.lemmas.List.Elements.{All-cons, All-filter, All-head, All-nil, All-same, All-tail, All-weaker, filter-append, filter_passes}
use Rattle.std.proofs.lemmas.List.Kept.{AllPairs-cons}
use Rattle.std.proofs.lemmas.Bool.Decides.{nat_tests}
use Rattle.lw_types.specs.declared.frame_copy.FrameCopy.{FrameCopy}
use Rattle.lw_types.specs.declared.refusal.Refusal.{Refusal}
use Rattle.lw_types.specs.declared.refusal.Refusal.TheVariants.{WindowsFull}
use Rattle.devices.specs.Heard.{with_hearing}
use Rattle.dedup.specs.declared.TheConstants.{WAIT, MOST_WINDOWS}
use Rattle.dedup.specs.Groups.{Arrival, is_in_group, first_groups, groups}
use Rattle.dedup.specs.Windows.{Window, window_of_group, hearing_of, is_due, is_of, opened_by, open_windows, with_hearings, result_map, joined_windows, windows_with, NoneDue, IsCurrent, StandFor}
use Rattle.dedup.proofs.Standing.{filter_all, filter_none}

-- windows with the same bytes begin so far apart
abbrev Apart : List Window → Type 0
Apart ws = AllPairs (λ v w. v.phy_payload ≡ w.phy_payload → v.opened + WAIT ≤ w.opened) ws

-- what holds of each copy holds of each group's first
firsts : (Q : ℕ → List ℕ → Type 0) (n : ℕ) (arrivals : List Arrival) → All (λ a. Q a.at a.copy.phy_payload) arrivals → All (λ w. Q w.opened w.phy_payload) (map window_of_group (first_groups n arrivals))
firsts Q zero arrivals all = All-nil (λ w. Q w.opened w.phy_payload)
firsts Q (suc n) [] all = All-nil (λ w. Q w.opened w.phy_payload)
firsts Q (suc n) (first ∷ rest) all =
    let P : Arrival → Type 0 = λ a. Q a.at a.copy.phy_payload in
    let others = filter (λ a. not (is_in_group first a)) rest in
    All-cons (λ w. Q w.opened w.phy_payload) (window_of_group (first ∷ filter (is_in_group first) rest)) (map window_of_group (first_groups n others)) (All-head P first rest all)
    (firsts Q n others (All-filter (λ a. not (is_in_group first a)) P rest (All-tail P first rest all)))

-- a copy that doesn't join a window has other bytes, or is later
too_late : (first a : Arrival) → not (is_in_group first a) ≡ true → first.copy.phy_payload ≡ a.copy.phy_payload → first.at + WAIT ≤ a.at
too_late first a e same =
    by (nat_lt a.at (first.at + WAIT)) refl ((bytes_decides a.copy.phy_payload first.copy.phy_payload).1 (sym same)) e
  where
    by : (b : Bool) → nat_lt a.at (first.at + WAIT) ≡ b → bytes_eq a.copy.phy_payload first.copy.phy_payload ≡ true
        → not (b && bytes_eq a.copy.phy_payload first.copy.phy_payload) ≡ true → first.at + WAIT ≤ a.at
    by true is equal e = absurd (true≢false (sym e ∙ ap not equal))
    by false is equal e = grind (arith, nat_tests)

apart_from : (n : ℕ) (arrivals : List Arrival) → Apart (map window_of_group (first_groups n arrivals))
apart_from zero arrivals = λ i j d lt within. absurd (omega arith)
apart_from (suc n) [] = λ i j d lt within. absurd (omega arith)
apart_from (suc n) (first ∷ rest) =
    let others = filter (λ a. not (is_in_group first a)) rest in
    let later = firsts (λ at' bytes. first.copy.phy_payload ≡ bytes → first.at + WAIT ≤ at') n others
    (All-weaker (λ a. not (is_in_group first a) ≡ true) (λ a. first.copy.phy_payload ≡ a.copy.phy_payload → first.at + WAIT ≤ a.at) (too_late first) others (filter_passes (λ a. not (is_in_group first a)) rest)) in
    AllPairs-cons (λ v w. v.phy_payload ≡ w.phy_payload → v.opened + WAIT ≤ w.opened) (window_of_group (first ∷ filter (is_in_group first) rest)) (map window_of_group (first_groups n others)) later (apart_from n others)

pub groups_apart : (arrivals : List Arrival) → Apart (map window_of_group (groups arrivals))
groups_apart arrivals = apart_from (length arrivals) arrivals

apart_tail : (w : Window) (ws : List Window) → Apart (w ∷ ws) → Apart ws
apart_tail w ws apart i j d lt within = apart (suc i) (suc j) d (omega arith) (omega arith)

apart_behind : (k : ℕ) (ws : List Window) → Apart ws → Apart (drop k ws)
apart_behind zero ws apart = apart
apart_behind (suc k) [] apart = apart
apart_behind (suc k) (w ∷ ws) apart = apart_behind k ws (apart_tail w ws apart)

pub they_wait : (ws : List Window) (arrivals : List Arrival) (closed now : ℕ) → StandFor ws arrivals closed now → NoneDue now ws → ws ≡ open_windows now arrivals
they_wait ws arrivals closed now h none =
    let W = map window_of_group (groups arrivals) in
    let waits : Window → Bool = λ w. not (is_due now w) in
    let gone : filter waits (take closed W) ≡ [] = filter_none waits (take closed W) (All-weaker (λ w. is_due now w ≡ true) (λ w. waits w ≡ false) (λ w e. ap not e) (take closed W) h.due) in
    let left : filter waits (drop closed W) ≡ ws = ap (filter waits) (sym h.windows) ∙ filter_all waits ws (All-weaker (λ w. is_due now w ≡ false) (λ w. waits w ≡ true) (λ w e. ap not e) ws none) in
    let whole : take closed W ++ drop closed W ≡ W = take-append-drop closed W in
    sym (ap (filter waits) (sym whole) ∙ filter-append waits (take closed W) (drop closed W) ∙ ap (λ xs. xs ++ filter waits (drop closed W)) gone ∙ left)

abbrev Current : ℕ → Window → Type 0
Current now w = (w.opened ≤ now) × (is_due now w ≡ false)

refused_too : {A B : Type 0} (f : A → B) (r : Result A Refusal) → result_err (result_map f r) ≡ result_err r
refused_too f (Ok x) = refl
refused_too f (Err e) = refl

-- of two windows, if the first isn't due and the other is open, they have different bytes
differ : (now : ℕ) (v w : Window) → is_due now v ≡ false → w.opened ≤ now → (v.phy_payload ≡ w.phy_payload → v.opened + WAIT ≤ w.opened) → v.phy_payload ≡ w.phy_payload → ⊥
differ now v w early le apart same = let later : v.opened + WAIT ≤ w.opened = apart same in grind (arith, nat_tests)

-- the window of the copy's bytes refuses it or not
joined_by : (ws : List Window) (now : ℕ) (copy : FrameCopy) (k : ℕ) (d : Window) → All (Current now) ws → Apart ws → k < length ws → (get_or ws k d).phy_payload ≡ copy.phy_payload
    → (list_any (is_of copy.phy_payload) ws ≡ true) × (result_err (joined_windows ws copy) ≡ result_err (with_hearing (get_or ws k d).hearings (hearing_of copy)))
joined_by [] now copy k d current apart lt same = absurd (omega arith)
joined_by (v ∷ ws) now copy zero d current apart lt same =
    let here : is_of copy.phy_payload v ≡ true = (bytes_decides copy.phy_payload v.phy_payload).1 (sym same) in
    (rw here refl, rw here (refused_too (λ hs. with_hearings v hs ∷ ws) (with_hearing v.hearings (hearing_of copy))))
joined_by (v ∷ ws) now copy (suc k) d current apart lt same =
    by (is_of copy.phy_payload v) refl (joined_by ws now copy k d (All-tail (Current now) v ws current) (apart_tail v ws apart) (omega arith) same)
  where
    w : Window
    w = get_or ws k d

    by : (b : Bool) → is_of copy.phy_payload v ≡ b
        → (list_any (is_of copy.phy_payload) ws ≡ true) × (result_err (joined_windows ws copy) ≡ result_err (with_hearing (get_or ws k d).hearings (hearing_of copy)))
        → ((b || list_any (is_of copy.phy_payload) ws) ≡ true)
        × (result_err (cond b (result_map (λ hs. with_hearings v hs ∷ ws) (with_hearing v.hearings (hearing_of copy))) (result_map (λ rest. v ∷ rest) (joined_windows ws copy))) ≡ result_err (with_hearing (get_or ws k d).hearings (hearing_of copy)))
    by true is rest = absurd (differ now v (get_or ws k d) (All-head (Current now) v ws current).1 (All-tail (Current now) v ws current k d (omega arith)).0
        (apart 0 (suc k) d (omega arith) lt) (sym ((bytes_decides copy.phy_payload v.phy_payload).0 is) ∙ sym same))
    by false is rest = (rest.0, refused_too (λ xs. v ∷ xs) (joined_windows ws copy) ∙ rest.1)

pub refused_by_group : (ws : List Window) (arrivals : List Arrival) (closed now : ℕ) (copy : FrameCopy) (w : Window) → StandFor ws arrivals closed now → IsCurrent now ws
    → Contains (open_windows now arrivals) w → w.phy_payload ≡ copy.phy_payload → result_err (windows_with ws now copy) ≡ result_err (with_hearing w.hearings (hearing_of copy))
refused_by_group ws arrivals closed now copy w h current one same =
    let waits : ws ≡ open_windows now arrivals = they_wait ws arrivals closed now h (All-weaker (Current now) (λ x. is_due now x ≡ false) (λ x c. c.1) ws current) in
    let there : Contains ws w = subst (λ xs. Contains xs w) (sym waits) one in
    let apart : Apart ws = subst Apart (sym h.windows) (apart_behind closed (map window_of_group (groups arrivals)) (groups_apart arrivals)) in
    let j = joined_by ws now copy there.0 w current apart there.1 (ap (λ x. x.phy_payload) there.2 ∙ same) in
    rw j.0 (j.1 ∙ ap (λ x. result_err (with_hearing x.hearings (hearing_of copy))) there.2)

none_of : (ws : List Window) (bytes : List ℕ) → All (λ w. w.phy_payload ≡ bytes → ⊥) ws → list_any (is_of bytes) ws ≡ false
none_of [] bytes none = refl
none_of (w ∷ ws) bytes none =
    by (is_of bytes w) refl (none_of ws bytes (All-tail (λ x. x.phy_payload ≡ bytes → ⊥) w ws none))
  where
    by : (b : Bool) → is_of bytes w ≡ b → list_any (is_of bytes) ws ≡ false → (b || list_any (is_of bytes) ws) ≡ false
    by true is rest = absurd (All-head (λ x. x.phy_payload ≡ bytes → ⊥) w ws none (sym ((bytes_decides bytes w.phy_payload).0 is)))
    by false is rest = rest

pub refused_with_none : (ws : List Window) (arrivals : List Arrival) (closed now : ℕ) (copy : FrameCopy) → StandFor ws arrivals closed now → IsCurrent now ws
    → All (λ w. w.phy_payload ≡ copy.phy_payload → ⊥) (open_windows now arrivals)
    → result_err (windows_with ws now copy) ≡ cond (nat_le MOST_WINDOWS (length (open_windows now arrivals))) (Some WindowsFull) None
refused_with_none ws arrivals closed now copy h current none =
    let waits : ws ≡ open_windows now arrivals = they_wait ws arrivals closed now h (All-weaker (Current now) (λ x. is_due now x ≡ false) (λ x c. c.1) ws current) in
    let nobody : list_any (is_of copy.phy_payload) ws ≡ false = none_of ws copy.phy_payload (All-same (λ w. w.phy_payload ≡ copy.phy_payload → ⊥) ws (open_windows now arrivals) waits none) in
    rw nobody (subst (λ xs. result_err (cond (nat_le MOST_WINDOWS (length ws)) (Err WindowsFull) (Ok (ws ++ opened_by now copy ∷ []))) ≡ cond (nat_le MOST_WINDOWS (length xs)) (Some WindowsFull) None) waits (by (nat_le MOST_WINDOWS (length ws))))
  where
    by : (b : Bool) → result_err (cond b (Err WindowsFull) (Ok (ws ++ opened_by now copy ∷ []))) ≡ cond b (Some WindowsFull) None
    by true = refl
    by false = refl
