-- What the windows preserve.
use Rattle.std.proofs.Common.{◌≡◌, ℕ, zero, suc, ◌+◌, ◌^◌, ◌≤◌, ◌<◌, SomeIff, nat_lt, Bool, true, false, cond, List, [], ◌∷◌, ◌++◌, length, map, drop, get_or, refl, sym, ap, subst, ◌∙◌, arith, Ok, Err, Some, None, Option, slice_get, position}
use Rattle.std.specs.Prelude.{nat_le, All, AllPairs, Result, OnErr}
use Rattle.std.specs.List.{list_any}
use Rattle.std.proofs.lemmas.List.{get_or-map, length-append, length-map, map-append}
use Rattle.std.proofs.lemmas.List.Elements.{All-cons, All-map}
use Rattle.std.proofs.lemmas.List.Quantifiers.{all_pairs_push}
use Rattle.std.proofs.lemmas.Bool.Decides.{nat_tests}
use Rattle.lw_types.specs.Answer.{Answers}
use Rattle.lw_types.specs.declared.frame_copy.FrameCopy.{FrameCopy}
use Rattle.lw_types.specs.declared.refusal.Refusal.{Refusal}
use Rattle.devices.specs.declared.heard.Hearing.{Hearing}
use Rattle.devices.specs.Heard.{with_hearing}
use Rattle.dedup.specs.declared.TheConstants.{WAIT, MOST_WINDOWS}
use Rattle.dedup.specs.Windows.{heard_in, oldest_due, Window, hearing_of, is_due, is_of, with_hearings, result_map, joined_windows, windows_with, NoneDue, IsOldestDue}
use Rattle.dedup.specs.Kept.{joined_at, opened_too, AreKept}
use Rattle.dedup.proofs.Places.{IsFirst, first_from_position}

abbrev opened : Window → ℕ
opened w = w.opened

-- what comes out of a changed result was changed
record From {A : Type 0} (f : A → List Window) (r : Result A Refusal) (after : List Window) : Type 0 where
  value : A
  was : r ≡ Ok value
  is : after ≡ f value

from : {A : Type 0} (f : A → List Window) (r : Result A Refusal) (after : List Window) → result_map f r ≡ Ok after → From f r after
from f (Ok x) after e = record { value = x; was = refl; is = cc }
from f (Err x) after e = absurd (cc)

openings : (ws after : List Window) (i : ℕ) (h : Hearing) → i < length ws → joined_at ws i h ≡ Ok after → map opened after ≡ map opened ws
openings [] after i h lt e = absurd (omega arith)
openings (w ∷ ws) after zero h lt e = let m = from (λ hs. with_hearings w hs ∷ ws) (with_hearing w.hearings h) after e in ap (map opened) m.is
openings (w ∷ ws) after (suc i) h lt e =
    let m = from (λ rest. w ∷ rest) (joined_at ws i h) after e in
    ap (map opened) m.is ∙ ap (λ ns. w.opened ∷ ns) (openings ws m.value i h (omega arith) m.was)

-- one more copy in a window leaves the order
pub kept_joined : (ws after : List Window) (i : ℕ) (h : Hearing) (r : Result (Unit {0}) Refusal) → i < length ws → AreKept ws
    → Answers (joined_at ws i h) (λ xs _. after ≡ xs) r → OnErr r (after ≡ ws) → AreKept after
kept_joined ws after i h (Err e) lt kept answers same = subst AreKept (sym same) kept
kept_joined ws after i h (Ok x) lt kept answers same = by (joined_at ws i h) refl answers
  where
    by : (wanted : Result (List Window) Refusal) → joined_at ws i h ≡ wanted → Answers wanted (λ xs _. after ≡ xs) (Ok x) → AreKept after
    by (Err e) is answers = absurd (cc)
    by (Ok xs) is answers =
        let same : map opened after ≡ map opened ws = ap (map opened) answers ∙ openings ws xs i h lt is in
        record {
          few = omega (arith, length-map after opened, length-map ws opened, ap length same, kept.few);
          in_order = subst (AllPairs (λ (a : ℕ) b. a ≤ b)) (sym same) kept.in_order;
        }

-- and so does a window that opens last
pub kept_opened : (ws : List Window) (w : Window) → AreKept ws → length ws < MOST_WINDOWS → All (λ v. v.opened ≤ w.opened) ws → AreKept (ws ++ w ∷ [])
kept_opened ws w kept room before =
    let opened : Window → ℕ = λ v. v.opened in
    let earlier = All-map (λ n. n ≤ w.opened) opened ws before in
    record {
      few = omega (arith, length-append ws (w ∷ []), room);
      in_order = subst (AllPairs (λ (a : ℕ) b. a ≤ b)) (sym (map-append opened ws (w ∷ []))) (all_pairs_push (λ (a : ℕ) b. a ≤ b) (map opened ws) w.opened kept.in_order (λ k d lt. earlier k d lt));
    }

-- and the oldest that leaves
pub kept_closed : (ws : List Window) → AreKept ws → AreKept (drop 1 ws)
kept_closed [] kept = kept
kept_closed (w ∷ ws) kept = record {
  few = omega (arith, kept.few);
  in_order = λ i j d lt within. kept.in_order (suc i) (suc j) d (omega arith) (omega arith);
}

joined_first : (ws : List Window) (i : ℕ) (copy : FrameCopy) → IsFirst copy.phy_payload ws i → joined_windows ws copy ≡ joined_at ws i (hearing_of copy)
joined_first [] i copy first = absurd first
joined_first (w ∷ ws) zero copy first = rw first refl
joined_first (w ∷ ws) (suc i) copy first = rw first.0 (ap (result_map (λ rest. w ∷ rest)) (joined_first ws i copy first.1))

there_is_one : (ws : List Window) (i : ℕ) (bytes : List ℕ) → IsFirst bytes ws i → list_any (is_of bytes) ws ≡ true
there_is_one [] i bytes first = absurd first
there_is_one (w ∷ ws) zero bytes first = rw first refl
there_is_one (w ∷ ws) (suc i) bytes first = rw first.0 (there_is_one ws i bytes first.1)

-- if a window has the bytes, the first such window takes the copy
pub added_joins : (ws : List Window) (now : ℕ) (copy : FrameCopy) (i : ℕ) → position (is_of copy.phy_payload) ws ≡ Some i → windows_with ws now copy ≡ joined_at ws i (hearing_of copy)
added_joins ws now copy i p =
    let first = first_from_position copy.phy_payload ws i p in
    rw (there_is_one ws i copy.phy_payload first) (joined_first ws i copy first)

-- if no window has them, a window opens
pub added_opens : (ws : List Window) (now : ℕ) (copy : FrameCopy) → list_any (is_of copy.phy_payload) ws ≡ false
    → windows_with ws now copy ≡ opened_too ws now copy.phy_payload (hearing_of copy)
added_opens ws now copy none = rw none refl

pub opened_answers : (ws : List Window) (now : ℕ) (bytes : List ℕ) (h : Hearing) (after : List Window) → length ws < MOST_WINDOWS
    → after ≡ ws ++ (record { opened = now; phy_payload = bytes; hearings = h ∷ [] }) ∷ [] → Answers (opened_too ws now bytes h) (λ xs _. after ≡ xs) (Ok (tt {0}))
opened_answers ws now bytes h after room is =
    let not_full : nat_le MOST_WINDOWS (length ws) ≡ false = grind (arith, nat_tests) in
    rw not_full is

-- if the oldest window isn't due, no window is
none_due : (now : ℕ) (w : Window) (ws : List Window) → AreKept (w ∷ ws) → now < w.opened + WAIT → NoneDue now (w ∷ ws)
none_due now w ws kept early = All-cons (λ x. is_due now x ≡ false) w ws (grind (arith, nat_tests)) later
  where
    not_due : (x : Window) → w.opened ≤ x.opened → is_due now x ≡ false
    not_due x le = grind (arith, nat_tests)

    later : NoneDue now ws
    later = λ k d lt. not_due (get_or ws k d) (subst (λ n. w.opened ≤ n) (get_or-map opened ws k d d.opened lt) (kept.in_order 0 (suc k) d.opened (omega arith) (omega (arith, length-map ws opened, lt))))

first_window : (ws : List Window) (w : Window) → slice_get ws 0 ≡ Some w → ws ≡ w ∷ drop 1 ws
first_window [] w at' = absurd (cc)
first_window (x ∷ ws) w at' = let same : x ≡ w = cc in ap (λ y. y ∷ ws) same

pub none_is_due : (ws : List Window) (w : Window) (now : ℕ) → slice_get ws 0 ≡ Some w → AreKept ws → now < w.opened + WAIT → NoneDue now ws
none_is_due ws w now at' kept early =
    let e = first_window ws w at' in
    subst (NoneDue now) (sym e) (none_due now w (drop 1 ws) (subst AreKept e kept) early)

pub oldest_is_due : (ws : List Window) (w : Window) (now : ℕ) → slice_get ws 0 ≡ Some w → w.opened + WAIT ≤ now → IsOldestDue now ws (heard_in w) (drop 1 ws)
oldest_is_due ws w now at' due = record {
  window = w;
  oldest = first_window ws w at';
  due = grind (arith, nat_tests);
  heard_in_it = refl;
}

-- a sum that exists if it has 64 bits
sum_in_range : (sum : ℕ) (o : Option ℕ) → SomeIff o (sum < 2 ^ 64) sum → o ≡ cond (nat_lt sum (2 ^ 64)) (Some sum) None
sum_in_range sum None above =
    let f : nat_lt sum (2 ^ 64) ≡ false = grind (arith, nat_tests) in
    ap (λ (b : Bool). cond b (Some sum) None) (sym f)
sum_in_range sum (Some x) (below, is) =
    let t : nat_lt sum (2 ^ 64) ≡ true = grind (arith, nat_tests) in
    ap (λ (n : ℕ). Some n) is ∙ ap (λ (b : Bool). cond b (Some sum) None) (sym t)

pub next_due_is : (ws : List Window) (w : Window) (o : Option ℕ) → slice_get ws 0 ≡ Some w → SomeIff o (w.opened + WAIT < 2 ^ 64) (w.opened + WAIT) → o ≡ oldest_due ws
next_due_is ws w o at' due = sum_in_range (w.opened + WAIT) o due ∙ ap oldest_due (sym (first_window ws w at'))
