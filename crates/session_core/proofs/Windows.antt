-- Windows that are closed, and the results of their commands.
use Rattle.std.proofs.Common.{◌≡◌, ◌≤◌, ◌<◌, ◌+◌, ◌∙◌, ℕ, zero, suc, Bool, true, false, ◌||◌, List, [], ◌∷◌, ◌++◌, length, cond, nat_le, Option, Some, Result, Ok, Err, refl, sym, ap, subst, arith}
use Rattle.std.specs.List.{All, list_any}
use Rattle.std.specs.Bool.{MatchBool}
use Rattle.std.specs.Result.{OnErr, OnOk, result_err}
use Rattle.std.proofs.lemmas.List.Elements.{All-cons, All-head, All-tail, All-push, All-rest, All-weaker}
use Rattle.std.proofs.lemmas.List.Folds.{list_any_none}
use Rattle.lw_types.specs.Answer.{Answers}
use Rattle.lw_types.specs.declared.refusal.Refusal.{Refusal}
use Rattle.lw_types.specs.declared.refusal.Refusal.TheVariants.{Backlog, OutOfMemory, UnknownChannel, WindowsFull}
use Rattle.lw_types.specs.declared.frame_copy.FrameCopy.{FrameCopy}
use Rattle.devices.specs.declared.command.Command.{Command}
use Rattle.devices.specs.declared.command.Command.TheVariants as commands
use Rattle.devices.specs.declared.heard.Heard.{Heard}
use Rattle.devices.specs.declared.heard.Hearing.{Hearing}
use Rattle.dedup.specs.Windows.{Window, IsCurrent, IsOldestDue, NoneDue, windows_with, hearing_of, is_due, is_of, joined_windows, opened_by, result_map, with_hearings}
use Rattle.dedup.specs.declared.TheConstants.{MOST_WINDOWS}
use Rattle.session_core.specs.State.{DecisionsState, IsLawful}
use Rattle.session_core.specs.Deciding.{verdict_of, Keeps, IsWithoutMemory, Makes, has_room}
use Rattle.session_core.specs.Core.{CoreState, with_outcome}
use Rattle.devices.specs.Heard.{IsReceivable, with_hearing}
use Rattle.session_core.specs.Events.{Closes, ClosesOldest, Handles, HandsInOldest, HasClosed, IsHeard, IsTurn, Starves, has_due, core_at_moment}
use Rattle.session_core.specs.declared.turn.Turn.{Turn}
use Rattle.session_core.proofs.Lawful.{lacks-full, lacks-turned}

-- ---- windows

-- what opened before a moment also opened before a later one
pub opened-later : (a b : ℕ) (ws : List Window) → a ≤ b → All (λ w. w.opened ≤ a) ws → All (λ w. w.opened ≤ b) ws
opened-later a b ws le h = All-weaker (λ (w : Window). w.opened ≤ a) (λ (w : Window). w.opened ≤ b) (λ w x. omega arith) ws h

pub opened-rest : (now : ℕ) (ws rest : List Window) (heard : Heard) → IsOldestDue now ws heard rest → All (λ w. w.opened ≤ now) ws → All (λ w. w.opened ≤ now) rest
opened-rest now ws rest heard oldest h = All-rest (λ (w : Window). w.opened ≤ now) oldest.window rest ws oldest.oldest h

no_list : (e : Refusal) (ws : List Window) → ◌≡◌ {A = Result (List Window) Refusal} (Err e) (Ok ws) → ⊥
no_list e ws h = cc

same_list : (a b : List Window) → ◌≡◌ {A = Result (List Window) Refusal} (Ok a) (Ok b) → a ≡ b
same_list a b h = cc

module _ (now : ℕ) where
  abbrev Opened : List Window → Type 0
  Opened ws = All (λ w. w.opened ≤ now) ws

  opened_first : (w : Window) (ws after : List Window) (found : Result (List Hearing) Refusal) → result_map (λ hearings. with_hearings w hearings ∷ ws) found ≡ Ok after
      → Opened (w ∷ ws) → Opened after
  opened_first w ws after (Ok hearings) is h =
      subst Opened (same_list (with_hearings w hearings ∷ ws) after is)
      (All-cons (λ (w : Window). w.opened ≤ now) (with_hearings w hearings) ws (All-head (λ (w : Window). w.opened ≤ now) w ws h) (All-tail (λ (w : Window). w.opened ≤ now) w ws h))
  opened_first w ws after (Err e) is h = absurd (no_list e after is)

  opened_joined : (ws : List Window) (copy : FrameCopy) (after : List Window) → joined_windows ws copy ≡ Ok after → Opened ws → Opened after
  opened_joined [] copy after is h = subst Opened (same_list [] after is) h
  opened_joined (w ∷ ws) copy after is h =
      by (is_of copy.phy_payload w) (λ rest found. opened_joined ws copy rest found (All-tail (λ (w : Window). w.opened ≤ now) w ws h)) is
    where
      later : (found : Result (List Window) Refusal) → ((rest : List Window) → found ≡ Ok rest → Opened rest) → result_map (λ rest. w ∷ rest) found ≡ Ok after → Opened after
      later (Ok rest) below is =
          subst Opened (same_list (w ∷ rest) after is)
          (All-cons (λ (w : Window). w.opened ≤ now) w rest (All-head (λ (w : Window). w.opened ≤ now) w ws h) (below rest refl))
      later (Err e) below is = absurd (no_list e after is)

      by : (b : Bool) → ((rest : List Window) → joined_windows ws copy ≡ Ok rest → Opened rest)
          → cond b (result_map (λ hearings. with_hearings w hearings ∷ ws) (with_hearing w.hearings (hearing_of copy))) (result_map (λ rest. w ∷ rest) (joined_windows ws copy)) ≡ Ok after → Opened after
      by true below is = opened_first w ws after (with_hearing w.hearings (hearing_of copy)) is h
      by false below is = later (joined_windows ws copy) below is

  opened_added : (ws : List Window) (copy : FrameCopy) (after : List Window) → windows_with ws now copy ≡ Ok after → Opened ws → Opened after
  opened_added ws copy after is h = by (list_any (is_of copy.phy_payload) ws) (nat_le MOST_WINDOWS (length ws)) is
    where
      by : (b full : Bool) → cond b (joined_windows ws copy) (cond full (Err WindowsFull) (Ok (ws ++ opened_by now copy ∷ []))) ≡ Ok after → Opened after
      by true full is = opened_joined ws copy after is h
      by false true is = absurd (no_list WindowsFull after is)
      by false false is =
          subst Opened (same_list (ws ++ opened_by now copy ∷ []) after is)
          (let at : now ≤ now = omega arith in All-push (λ (w : Window). w.opened ≤ now) ws (opened_by now copy) h at)

  -- a copy that is taken opens no window after its moment
  pub opened-taken : (ws : List Window) (copy : FrameCopy) (after : List Window) (result : Result (Unit {0}) Refusal)
      → Answers (windows_with ws now copy) (λ found _. after ≡ found) result → OnErr result (after ≡ ws) → Opened ws → Opened after
  opened-taken ws copy after result answers same h = by (windows_with ws now copy) refl result answers same
    where
      by : (found : Result (List Window) Refusal) → windows_with ws now copy ≡ found → (result : Result (Unit {0}) Refusal)
          → Answers found (λ found _. after ≡ found) result → OnErr result (after ≡ ws) → Opened after
      by (Ok found) is (Ok done) answers same = subst Opened (sym answers) (opened_added ws copy found is h)
      by (Err e) is (Ok done) answers same = absurd (not_refused e answers)
        where
          not_refused : (e : Refusal) → ◌≡◌ {A = Result (Unit {0}) Refusal} (Ok done) (Err e) → ⊥
          not_refused e h = cc
      by found is (Err e) answers same = subst Opened (sym same) h

-- ---- what is due

none_due : (now : ℕ) (ws : List Window) → list_any (is_due now) ws ≡ false → NoneDue now ws
none_due now [] h = λ k d lt. absurd (below lt)
  where
    below : {k : ℕ} → k < 0 → ⊥
    below lt = omega arith
none_due now (w ∷ ws) h =
    let parts = both (is_due now w) (list_any (is_due now) ws) h in
    All-cons (λ (w : Window). is_due now w ≡ false) w ws parts.0 (none_due now ws parts.1)
  where
    both : (a b : Bool) → (a || b) ≡ false → (a ≡ false) × (b ≡ false)
    both true b h = absurd (no h)
      where
        no : true ≡ false → ⊥
        no h = cc
    both false b h = (refl, h)

pub due-none : (now : ℕ) (ws : List Window) → NoneDue now ws → list_any (is_due now) ws ≡ false
due-none now ws h = list_any_none (is_due now) ws h

pub due-some : (now : ℕ) (ws rest : List Window) (heard : Heard) → IsOldestDue now ws heard rest → list_any (is_due now) ws ≡ true
due-some now ws rest heard oldest = ap (list_any (is_due now)) oldest.oldest ∙ ap (λ b. b || list_any (is_due now) rest) oldest.due

pub is-current : (now : ℕ) (ws : List Window) → All (λ w. w.opened ≤ now) ws → list_any (is_due now) ws ≡ false → IsCurrent now ws
is-current now ws opened none = let due = none_due now ws none in λ k d lt. (opened k d lt, due k d lt)

-- ---- what came of a command

pub outcome-windows : (s : CoreState) (d : DecisionsState) (r : Result (Unit {0}) Refusal) → (with_outcome s d r).windows ≡ s.windows
outcome-windows s d (Ok done) = refl
outcome-windows s d (Err OutOfMemory) = refl
outcome-windows s d (Err refusal) = refl

pub outcome-clock : (s : CoreState) (d : DecisionsState) (r : Result (Unit {0}) Refusal) → (with_outcome s d r).clock ≡ s.clock
outcome-clock s d (Ok done) = refl
outcome-clock s d (Err OutOfMemory) = refl
outcome-clock s d (Err refusal) = refl

outcome-again : (s : CoreState) (d : DecisionsState) (r : Result (Unit {0}) Refusal) → with_outcome (record s { decisions = d }) d r ≡ with_outcome s d r
outcome-again s d (Ok done) = refl
outcome-again s d (Err OutOfMemory) = refl
outcome-again s d (Err refusal) = refl

pub handles-kept : (old : CoreState) (command : Command) (result : Result (Unit {0}) Refusal) (d : DecisionsState) (new : CoreState) → Keeps old.decisions command result d
    → new ≡ with_outcome (record old { decisions = d }) d result → Handles old command result new
handles-kept old command result d new kept is = record { decisions = d; kept = kept; new_is = is ∙ outcome-again old d result }

-- it was passed over
pub handles-lack : (old : CoreState) (command : Command) (e : Refusal) (new : CoreState) → (has_room old.decisions ≡ false → e ≡ Backlog) → IsWithoutMemory old.decisions command e
    → IsLawful old.decisions → new ≡ with_outcome old old.decisions (Err e) → Handles old command (Err e) new
handles-lack old command e new full lack lawful is =
    record {
      decisions = old.decisions;
      kept =
          record {
            full = λ none. ap (λ (e : Refusal). Err e) (full none);
            made = lacks-turned old.decisions command (λ s _. Makes old.decisions command s old.decisions) e lack;
            same = refl;
            lawful = lawful;
          };
      new_is = is;
    }

-- there was no room
pub handles-full : (old : CoreState) (command : Command) (new : CoreState) → has_room old.decisions ≡ false → IsLawful old.decisions
    → new ≡ with_outcome old old.decisions (Err Backlog) → Handles old command (Err Backlog) new
handles-full old command new none lawful is = handles-lack old command Backlog new (λ _. refl) (lacks-full old.decisions command none) lawful is

-- ---- windows that are closed

pub hands-windows : (old : CoreState) (r : Result (Unit {0}) Refusal) (new : CoreState) → HandsInOldest old r new → new.windows ≡ old.windows
hands-windows old r new h = ap (λ (s : CoreState). s.windows) h.handled.new_is ∙ outcome-windows old h.handled.decisions r

pub hands-clock : (old : CoreState) (r : Result (Unit {0}) Refusal) (new : CoreState) → HandsInOldest old r new → new.clock ≡ old.clock
hands-clock old r new h = ap (λ (s : CoreState). s.clock) h.handled.new_is ∙ outcome-clock old h.handled.decisions r

closed-one : (old new : CoreState) → ClosesOldest old new → length old.windows ≡ suc (length new.windows)
closed-one old new h =
    ap length h.handed_in.oldest.oldest
    ∙ ap suc (sym (ap (λ (s : CoreState). length s.windows) h.new_is))

pub closes-length : (n : ℕ) (old new : CoreState) → Closes n old new → n + length new.windows ≡ length old.windows
closes-length zero old new h = let same = ap (λ (s : CoreState). length s.windows) h in omega (arith, same)
closes-length (suc n) old new h =
    let one = closed-one h.0 new h.2 in
    let rest = closes-length n old h.0 h.1 in
    omega (arith, one, rest)

-- ---- a copy

-- a window took it, or refused it
pub heard-as : (old : CoreState) (copy : FrameCopy) (after : List Window) (result : Result (Unit {0}) Refusal) (new : CoreState)
    → Answers (windows_with old.windows old.clock copy) (λ ws _. after ≡ ws) result → OnErr result (after ≡ old.windows) → IsReceivable copy.reception
    → new ≡ record old { windows = after } → IsHeard copy old result new
heard-as old copy after result new answers same receivable is =
    record {
      known = known result;
      receivable = λ _. taken (windows_with old.windows old.clock copy) result answers;
      unknown = λ not. absurd (not receivable);
      same = stays result same;
    }
  where
    taken : (found : Result (List Window) Refusal) (result : Result (Unit {0}) Refusal) → Answers found (λ ws _. after ≡ ws) result
        → Answers found (λ ws _. new ≡ record old { windows = ws }) result
    taken (Ok ws) (Ok done) h = is ∙ ap (λ (l : List Window). record old { windows = l }) h
    taken (Ok ws) (Err e) h = h
    taken (Err e) result h = h

    known : (result : Result (Unit {0}) Refusal) → OnOk result (IsReceivable copy.reception)
    known (Ok done) = receivable
    known (Err e) = tt

    stays : (result : Result (Unit {0}) Refusal) → OnErr result (after ≡ old.windows) → OnErr result (new ≡ old)
    stays (Ok done) h = tt
    stays (Err e) h = is ∙ ap (λ (l : List Window). record old { windows = l }) h

-- it was on no channel
pub heard-not : (old : CoreState) (copy : FrameCopy) → ¬ (IsReceivable copy.reception) → IsHeard copy old (Err UnknownChannel) old
heard-not old copy not = record { known = tt; receivable = λ is. absurd (not is); unknown = λ _. refl; same = refl }

-- ---- the oldest window

pub hands-lacking : (old : CoreState) (now : ℕ) (heard : Heard) (rest : List Window) (e : Refusal) (result : Result (Unit {0}) Refusal) (new : CoreState) → now ≡ old.clock → IsOldestDue now old.windows heard rest
    → (has_room old.decisions ≡ false → e ≡ Backlog) → IsWithoutMemory old.decisions (commands.Heard heard) e → IsLawful old.decisions → result ≡ Err e → new ≡ with_outcome old old.decisions (Err e)
    → HandsInOldest old result new
hands-lacking old now heard rest e result new at oldest full lack lawful is noted =
    record {
      heard = heard;
      rest = rest;
      oldest = subst (λ now. IsOldestDue now old.windows heard rest) at oldest;
      handled = subst (λ r. Handles old (commands.Heard heard) r new) (sym is) (handles-lack old (commands.Heard heard) e new full lack lawful noted);
    }

pub hands-full : (old : CoreState) (now : ℕ) (heard : Heard) (rest : List Window) (result : Result (Unit {0}) Refusal) (new : CoreState) → now ≡ old.clock → IsOldestDue now old.windows heard rest
    → has_room old.decisions ≡ false → IsLawful old.decisions → result ≡ Err Backlog → new ≡ with_outcome old old.decisions (Err Backlog) → HandsInOldest old result new
hands-full old now heard rest result new at oldest none lawful is noted =
    record {
      heard = heard;
      rest = rest;
      oldest = subst (λ now. IsOldestDue now old.windows heard rest) at oldest;
      handled = subst (λ r. Handles old (commands.Heard heard) r new) (sym is) (handles-full old (commands.Heard heard) new none lawful noted);
    }

-- ---- turns

pub verdict-of-err : (r : Result (Unit {0}) Refusal) → verdict_of (result_err r) ≡ r
verdict-of-err (Ok done) = refl
verdict-of-err (Err e) = refl

-- an event whose own work was done
pub turned-own : (old between new : CoreState) (moment : ℕ) (Own : CoreState → Option Refusal → CoreState → Type 0) (turn : Turn) → HasClosed (core_at_moment old moment) between
    → has_due between ≡ false → Own between turn.refused new → turn.from ≡ old.decisions.made → turn.to ≡ new.decisions.made → IsTurn old moment Own turn new
turned-own old between new moment Own turn closed none own from to =
    record {
      between = between;
      closed = closed;
      own = subst (λ b. MatchBool b (Starves between turn.refused new) (Own between turn.refused new)) (sym none) own;
      from = from;
      to = to;
    }

-- and one for whose closings memory ran out
pub turned-starved : (old between new : CoreState) (moment : ℕ) (Own : CoreState → Option Refusal → CoreState → Type 0) (turn : Turn) → HasClosed (core_at_moment old moment) between
    → has_due between ≡ true → turn.refused ≡ Some OutOfMemory → new ≡ between → turn.from ≡ old.decisions.made → turn.to ≡ new.decisions.made → IsTurn old moment Own turn new
turned-starved old between new moment Own turn closed some refused same from to =
    record {
      between = between;
      closed = closed;
      own = subst (λ b. MatchBool b (Starves between turn.refused new) (Own between turn.refused new)) (sym some) (refused, same);
      from = from;
      to = to;
    }
