-- The open windows represent the groups that aren't closed.
use Rattle.std.proofs.Common.{◌≡◌, ℕ, zero, suc, ◌+◌, ◌≤◌, Bool, true, false, cond, List, [], ◌∷◌, ◌++◌, length, map, filter, take, drop, refl, sym, ap, subst, ◌∙◌, arith, Ok, Err, ◌||◌, add-one}
use Rattle.std.specs.Prelude.{nat_lt, nat_le, All, Result}
use Rattle.std.specs.List.{list_any}
use Rattle.std.proofs.lemmas.List.{append-nil, take-append-drop, length-map}
use Rattle.std.proofs.lemmas.List.Elements.{All-cons, All-head, All-push, All-same, All-tail, All-weaker, filter-append}
use Rattle.std.proofs.lemmas.Bool.Decides.{nat_tests}
use Rattle.lw_types.specs.declared.frame_copy.FrameCopy.{FrameCopy}
use Rattle.lw_types.specs.declared.refusal.Refusal.{Refusal}
use Rattle.lw_types.specs.declared.refusal.Refusal.TheVariants.{SameGateway, CopiesFull, WindowsFull}
use Rattle.devices.specs.declared.heard.Hearing.{Hearing}
use Rattle.devices.specs.Heard.{with_hearing, has_gateway, gateway_of}
use Rattle.devices.specs.declared.heard.TheConstants.Hearings.{MOST}
use Rattle.dedup.specs.declared.TheConstants.{WAIT, MOST_WINDOWS}
use Rattle.dedup.specs.Groups.{Arrival, arrival, groups}
use Rattle.dedup.specs.Windows.{Window, window_of_group, hearing_of, is_due, is_of, opened_by, with_hearings, result_map, joined_windows, windows_with, NoneDue, IsCurrent, StandFor}
use Rattle.dedup.proofs.GroupLemmas.{takes, with_arrival, one_more_arrival}

due_takes_none : (w : Window) (a : Arrival) → is_due a.at w ≡ true → nat_lt a.at (w.opened + WAIT) ≡ false
due_takes_none w a e = grind (arith, nat_tests)

not_due_is_open : (w : Window) (now : ℕ) → is_due now w ≡ false → nat_lt now (w.opened + WAIT) ≡ true
not_due_is_open w now e = grind (arith, nat_tests)

-- a window that is due takes nothing
passed_over : (w : Window) (ws : List Window) (a : Arrival) → is_due a.at w ≡ true → with_arrival (w ∷ ws) a ≡ w ∷ with_arrival ws a
passed_over w ws a e = rw (due_takes_none w a e) refl

-- closed groups stay as they are
record Kept (W : List Window) (k : ℕ) (a : Arrival) : Type 0 where
  front : take k (with_arrival W a) ≡ take k W
  behind : drop k (with_arrival W a) ≡ with_arrival (drop k W) a

kept : (W : List Window) (k : ℕ) (a : Arrival) → k ≤ length W → All (λ w. is_due a.at w ≡ true) (take k W) → Kept W k a
kept W zero a le due = record { front = refl; behind = refl }
kept [] (suc k) a le due = absurd (omega arith)
kept (w ∷ W) (suc k) a le due =
    let head = All-head (λ x. is_due a.at x ≡ true) w (take k W) due in
    let tail = kept W k a (omega arith) (All-tail (λ x. is_due a.at x ≡ true) w (take k W) due) in
    record {
      front = ap (take (suc k)) (passed_over w W a head) ∙ ap (λ ws. w ∷ ws) tail.front;
      behind = ap (drop (suc k)) (passed_over w W a head) ∙ tail.behind;
    }

longer : (W : List Window) (a : Arrival) → length W ≤ length (with_arrival W a)
longer [] a = omega arith
longer (w ∷ W) a = by (takes w a) (longer W a)
  where
    by : (b : Bool) → length W ≤ length (with_arrival W a) → suc (length W) ≤ length (cond b (with_hearings w (w.hearings ++ hearing_of a.copy ∷ []) ∷ W) (w ∷ with_arrival W a))
    by true more = omega arith
    by false more = omega arith

-- a window takes a copy if it doesn't refuse it
took : (hearings : List Hearing) (h : Hearing) (after : List Hearing) → with_hearing hearings h ≡ Ok after → after ≡ hearings ++ h ∷ []
took hearings h after = by (has_gateway hearings (gateway_of h)) (nat_le MOST (length hearings))
  where
    by : (b c : Bool) → cond b (Err SameGateway) (cond c (Err CopiesFull) (Ok (hearings ++ h ∷ []))) ≡ Ok after → after ≡ hearings ++ h ∷ []
    by true c e = cc
    by false true e = cc
    by false false e = cc

-- the value that a changed result has comes from one of the result
record Mapped {A B : Type 0} (f : A → B) (r : Result A Refusal) (value : B) : Type 0 where
  from : A
  was : r ≡ Ok from
  is : value ≡ f from

mapped : {A B : Type 0} (f : A → B) (r : Result A Refusal) (value : B) → result_map f r ≡ Ok value → Mapped f r value
mapped f (Ok x) value e = record { from = x; was = refl; is = cc }
mapped f (Err x) value e = absurd (cc)

-- if a window has the copy's bytes, it takes the copy
joined_takes : (ws : List Window) (now : ℕ) (copy : FrameCopy) (after : List Window) → IsCurrent now ws → list_any (is_of copy.phy_payload) ws ≡ true
    → joined_windows ws copy ≡ Ok after → with_arrival ws (arrival now copy) ≡ after
joined_takes [] now copy after current there e = absurd (cc)
joined_takes (w ∷ ws) now copy after current there e =
    by (is_of copy.phy_payload w) refl (joined_takes ws now copy) there e
  where
    still : nat_lt now (w.opened + WAIT) ≡ true
    still = not_due_is_open w now (All-head (λ x. (x.opened ≤ now) × (is_due now x ≡ false)) w ws current).1

    by : (b : Bool) → is_of copy.phy_payload w ≡ b
        → ((rest : List Window) → IsCurrent now ws → list_any (is_of copy.phy_payload) ws ≡ true → joined_windows ws copy ≡ Ok rest → with_arrival ws (arrival now copy) ≡ rest)
        → (b || list_any (is_of copy.phy_payload) ws) ≡ true
        → cond b (result_map (λ hearings. with_hearings w hearings ∷ ws) (with_hearing w.hearings (hearing_of copy))) (result_map (λ rest. w ∷ rest) (joined_windows ws copy)) ≡ Ok after
        → with_arrival (w ∷ ws) (arrival now copy) ≡ after
    by true of_it taken any ok =
        let m = mapped (λ hearings. with_hearings w hearings ∷ ws) (with_hearing w.hearings (hearing_of copy)) after ok in
        rw (still, of_it) (sym (m.is ∙ ap (λ hearings. with_hearings w hearings ∷ ws) (took w.hearings (hearing_of copy) m.from m.was)))
    by false of_it taken any ok =
        let m = mapped (λ rest. w ∷ rest) (joined_windows ws copy) after ok in
        let tail = All-tail (λ x. (x.opened ≤ now) × (is_due now x ≡ false)) w ws current in
        rw (still, of_it) (ap (λ rest. w ∷ rest) (taken m.from tail any m.was) ∙ sym m.is)

-- if none has them, a window opens at the end
opens_last : (ws : List Window) (now : ℕ) (copy : FrameCopy) → IsCurrent now ws → list_any (is_of copy.phy_payload) ws ≡ false
    → with_arrival ws (arrival now copy) ≡ ws ++ opened_by now copy ∷ []
opens_last [] now copy current none = refl
opens_last (w ∷ ws) now copy current none = by (is_of copy.phy_payload w) refl (opens_last ws now copy) none
  where
    still : nat_lt now (w.opened + WAIT) ≡ true
    still = not_due_is_open w now (All-head (λ x. (x.opened ≤ now) × (is_due now x ≡ false)) w ws current).1

    by : (b : Bool) → is_of copy.phy_payload w ≡ b
        → (IsCurrent now ws → list_any (is_of copy.phy_payload) ws ≡ false → with_arrival ws (arrival now copy) ≡ ws ++ opened_by now copy ∷ [])
        → (b || list_any (is_of copy.phy_payload) ws) ≡ false
        → with_arrival (w ∷ ws) (arrival now copy) ≡ w ∷ (ws ++ opened_by now copy ∷ [])
    by true of_it opens any = absurd (cc)
    by false of_it opens any =
        let tail = All-tail (λ x. (x.opened ≤ now) × (is_due now x ≡ false)) w ws current in
        rw (still, of_it) (ap (λ rest. w ∷ rest) (opens tail any))

-- what is added is the arrival
added_takes : (ws : List Window) (now : ℕ) (copy : FrameCopy) (after : List Window) → IsCurrent now ws → windows_with ws now copy ≡ Ok after → with_arrival ws (arrival now copy) ≡ after
added_takes ws now copy after current = by (list_any (is_of copy.phy_payload) ws) (nat_le MOST_WINDOWS (length ws)) refl
  where
    by : (b c : Bool) → list_any (is_of copy.phy_payload) ws ≡ b → cond b (joined_windows ws copy) (cond c (Err WindowsFull) (Ok (ws ++ opened_by now copy ∷ []))) ≡ Ok after
        → with_arrival ws (arrival now copy) ≡ after
    by true c there e = joined_takes ws now copy after current there e
    by false true there e = absurd (cc)
    by false false there e = let last = opens_last ws now copy current there in cc

-- a window opened at this moment or before, and isn't due
abbrev Open : ℕ → Window → Type 0
Open now w = (w.opened ≤ now) × (is_due now w ≡ false)

joined_stays : (ws : List Window) (now : ℕ) (copy : FrameCopy) (after : List Window) → All (Open now) ws → joined_windows ws copy ≡ Ok after → All (Open now) after
joined_stays [] now copy after current ok = let empty : after ≡ [] = cc in All-same (Open now) after [] empty current
joined_stays (w ∷ ws) now copy after current ok = by (is_of copy.phy_payload w) (joined_stays ws now copy) ok
  where
    by : (b : Bool) → ((rest : List Window) → All (Open now) ws → joined_windows ws copy ≡ Ok rest → All (Open now) rest)
        → cond b (result_map (λ hearings. with_hearings w hearings ∷ ws) (with_hearing w.hearings (hearing_of copy))) (result_map (λ rest. w ∷ rest) (joined_windows ws copy)) ≡ Ok after
        → All (Open now) after
    by true stays ok =
        let m = mapped (λ hearings. with_hearings w hearings ∷ ws) (with_hearing w.hearings (hearing_of copy)) after ok in
        All-same (Open now) after (with_hearings w m.from ∷ ws) m.is (All-cons (Open now) (with_hearings w m.from) ws (All-head (Open now) w ws current) (All-tail (Open now) w ws current))
    by false stays ok =
        let m = mapped (λ rest. w ∷ rest) (joined_windows ws copy) after ok in
        let tail = stays m.from (All-tail (Open now) w ws current) m.was in
        All-same (Open now) after (w ∷ m.from) m.is (All-cons (Open now) w m.from (All-head (Open now) w ws current) tail)

just_opened : (now : ℕ) (copy : FrameCopy) → Open now (opened_by now copy)
just_opened now copy = (omega arith, grind (arith, nat_tests))

-- after a copy was taken, each window is still open
pub added_stays : (ws : List Window) (now : ℕ) (copy : FrameCopy) (after : List Window) → IsCurrent now ws → windows_with ws now copy ≡ Ok after → IsCurrent now after
added_stays ws now copy after current = by (list_any (is_of copy.phy_payload) ws) (nat_le MOST_WINDOWS (length ws))
  where
    by : (b c : Bool) → cond b (joined_windows ws copy) (cond c (Err WindowsFull) (Ok (ws ++ opened_by now copy ∷ []))) ≡ Ok after → IsCurrent now after
    by true c e = joined_stays ws now copy after current e
    by false true e = absurd (cc)
    by false false e =
        let is : after ≡ ws ++ opened_by now copy ∷ [] = cc in
        All-same (Open now) after (ws ++ opened_by now copy ∷ []) is (All-push (Open now) ws (opened_by now copy) current (just_opened now copy))

-- the part of a list from one place on, and the part from the next place on
record Split (W : List Window) (k : ℕ) (w : Window) (ws : List Window) : Type 0 where
  front : take (suc k) W ≡ take k W ++ w ∷ []
  behind : drop (suc k) W ≡ ws
  within : suc k ≤ length W

split : (W : List Window) (k : ℕ) (w : Window) (ws : List Window) → w ∷ ws ≡ drop k W → Split W k w ws
split [] zero w ws e = absurd (cc)
split [] (suc k) w ws e = absurd (cc)
split (x ∷ W) zero w ws e = record { front = cc; behind = cc; within = omega arith }
split (x ∷ W) (suc k) w ws e =
    let s = split W k w ws e in
    record { front = ap (λ xs. x ∷ xs) s.front; behind = s.behind; within = omega (arith, s.within) }

pub filter_none : (p : Window → Bool) (ws : List Window) → All (λ w. p w ≡ false) ws → filter p ws ≡ []
filter_none p [] none = refl
filter_none p (w ∷ ws) none = rw (All-head (λ x. p x ≡ false) w ws none) (filter_none p ws (All-tail (λ x. p x ≡ false) w ws none))

pub filter_all : (p : Window → Bool) (ws : List Window) → All (λ w. p w ≡ true) ws → filter p ws ≡ ws
filter_all p [] all = refl
filter_all p (w ∷ ws) all = rw (All-head (λ x. p x ≡ true) w ws all) (ap (λ xs. w ∷ xs) (filter_all p ws (All-tail (λ x. p x ≡ true) w ws all)))

pub none_stand : (now : ℕ) → StandFor [] [] 0 now
none_stand now = record { windows = refl; within = omega arith; due = λ k d lt. absurd (omega arith) }

pub stand_with_one_more : (ws after : List Window) (arrivals : List Arrival) (closed now : ℕ) (copy : FrameCopy) → StandFor ws arrivals closed now → IsCurrent now ws
    → windows_with ws now copy ≡ Ok after → StandFor after (arrivals ++ arrival now copy ∷ []) closed now
stand_with_one_more ws after arrivals closed now copy h current ok =
    let a = arrival now copy in
    let W = map window_of_group (groups arrivals) in
    let more : map window_of_group (groups (arrivals ++ a ∷ [])) ≡ with_arrival W a = one_more_arrival arrivals a in
    let few : closed ≤ length W = omega (arith, length-map (groups arrivals) window_of_group, h.within) in
    let k = kept W closed a few h.due in
    record {
      windows = sym (ap (drop closed) more ∙ k.behind ∙ ap (λ xs. with_arrival xs a) (sym h.windows) ∙ added_takes ws now copy after current ok);
      within = omega (arith, length-map (groups (arrivals ++ a ∷ [])) window_of_group, ap length more, longer W a);
      due = All-same (λ w. is_due now w ≡ true) _ _ (ap (take closed) more ∙ k.front) h.due;
    }

closed_one : (w : Window) (ws : List Window) (arrivals : List Arrival) (closed now : ℕ) → StandFor (w ∷ ws) arrivals closed now → is_due now w ≡ true
    → StandFor ws arrivals (suc closed) now
closed_one w ws arrivals closed now h due =
    let W = map window_of_group (groups arrivals) in
    let s = split W closed w ws h.windows in
    record {
      windows = sym s.behind;
      within = omega (arith, length-map (groups arrivals) window_of_group, s.within);
      due = All-same (λ x. is_due now x ≡ true) _ _ s.front (All-push (λ x. is_due now x ≡ true) (take closed W) w h.due due);
    }

pub stand_closed : (w : Window) (ws : List Window) (arrivals : List Arrival) (closed now : ℕ) → StandFor (w ∷ ws) arrivals closed now → is_due now w ≡ true
    → StandFor ws arrivals (closed + 1) now
stand_closed w ws arrivals closed now h due = subst (λ n. StandFor ws arrivals n now) (sym (add-one closed)) (closed_one w ws arrivals closed now h due)

due_later : (now later : ℕ) → now ≤ later → (w : Window) → is_due now w ≡ true → is_due later w ≡ true
due_later now later le w e = grind (arith, nat_tests)

pub stand_later : (ws : List Window) (arrivals : List Arrival) (closed now later : ℕ) → StandFor ws arrivals closed now → now ≤ later → StandFor ws arrivals closed later
stand_later ws arrivals closed now later h le = record {
  windows = h.windows;
  within = h.within;
  due = All-weaker (λ w. is_due now w ≡ true) (λ w. is_due later w ≡ true) (due_later now later le) (take closed (map window_of_group (groups arrivals))) h.due;
}

pub all_closed : (ws : List Window) (arrivals : List Arrival) (closed now : ℕ) → StandFor ws arrivals closed now → NoneDue now ws
    → take closed (map window_of_group (groups arrivals)) ≡ filter (is_due now) (map window_of_group (groups arrivals))
all_closed ws arrivals closed now h none =
    let W = map window_of_group (groups arrivals) in
    let behind : filter (is_due now) (drop closed W) ≡ [] = ap (filter (is_due now)) (sym h.windows) ∙ filter_none (is_due now) ws none in
    let whole : take closed W ++ drop closed W ≡ W = take-append-drop closed W in
    sym (ap (filter (is_due now)) (sym whole) ∙ filter-append (is_due now) (take closed W) (drop closed W) ∙ ap (λ xs. filter (is_due now) (take closed W) ++ xs) behind ∙ append-nil _ ∙ filter_all (is_due now) (take closed W) h.due)
