-- The windows of a core represent the groups of the copies that it accepted.
use Rattle.std.proofs.Common.{◌≡◌, ◌≤◌, ◌+◌, ◌∙◌, ℕ, zero, suc, max, Bool, true, false, List, [], ◌∷◌, ◌++◌, Option, Some, None, Result, Ok, Err, refl, sym, ap, subst, arith}
use Rattle.std.specs.Bool.{MatchBool}
use Rattle.std.specs.List.{All}
use Rattle.lw_types.specs.Answer.{Answers}
use Rattle.lw_types.specs.declared.refusal.Refusal.{Refusal}
use Rattle.lw_types.specs.declared.refusal.Refusal.TheVariants.{OutOfMemory}
use Rattle.lw_types.specs.declared.frame_copy.FrameCopy.{FrameCopy}
use Rattle.devices.specs.declared.command.Command.{Command}
use Rattle.dedup.specs.Groups.{Arrival, arrival}
use Rattle.dedup.specs.Windows.{Window, IsCurrent, StandFor, windows_with, is_due}
use Rattle.session_core.specs.Deciding.{verdict_of}
use Rattle.session_core.specs.Core.{CoreState, with_outcome}
use Rattle.session_core.specs.Events.{Asks, Closes, ClosesOldest, HasClosed, Hears, IsTurn, Starves, Ticks, has_due, core_at_moment}
use Rattle.session_core.specs.declared.turn.Turn.{Turn}
use Rattle.session_core.specs.Standing.{with_copy}
use Rattle.session_core.proofs.Windows.{hands-clock, is-current, opened-later, opened-rest, outcome-clock, outcome-windows}

outcome-closings : (s : CoreState) (d : _) (r : Result (Unit {0}) Refusal) → (with_outcome s d r).closings ≡ s.closings
outcome-closings s d (Ok done) = refl
outcome-closings s d (Err OutOfMemory) = refl
outcome-closings s d (Err refusal) = refl

-- what an event's own leaves of the windows
pub record Keeps (s new : CoreState) : Type 0 where
  pub windows : new.windows ≡ s.windows
  pub clock : new.clock ≡ s.clock
  pub closings : new.closings ≡ s.closings

keeps-same : (s new : CoreState) → new ≡ s → Keeps s new
keeps-same s new is = record { windows = ap (λ (s : CoreState). s.windows) is; clock = ap (λ (s : CoreState). s.clock) is; closings = ap (λ (s : CoreState). s.closings) is }

keeps-asked : (command : Command) (s : CoreState) (refused : Option Refusal) (new : CoreState) → Asks command s refused new → Keeps s new
keeps-asked command s refused new h =
    record {
      windows = ap (λ (s : CoreState). s.windows) h.new_is ∙ outcome-windows s h.decisions (verdict_of refused);
      clock = ap (λ (s : CoreState). s.clock) h.new_is ∙ outcome-clock s h.decisions (verdict_of refused);
      closings = ap (λ (s : CoreState). s.closings) h.new_is ∙ outcome-closings s h.decisions (verdict_of refused);
    }

keeps-ticked : (s : CoreState) (refused : Option Refusal) (new : CoreState) → Ticks s refused new → Keeps s new
keeps-ticked s refused new h = keeps-same s new h.1

-- a window was closed
module _ (before new : CoreState) (h : ClosesOldest before new) where
  closed_windows : new.windows ≡ h.handed_in.rest
  closed_windows = ap (λ (s : CoreState). s.windows) h.new_is

  closed_clock : new.clock ≡ before.clock
  closed_clock = ap (λ (s : CoreState). s.clock) h.new_is ∙ hands-clock before h.result h.between h.handed_in

opened_closes : (n : ℕ) (old new : CoreState) → Closes n old new → All (λ w. w.opened ≤ old.clock) old.windows → All (λ w. w.opened ≤ new.clock) new.windows
opened_closes zero old new h opened = subst (λ (s : CoreState). All (λ w. w.opened ≤ s.clock) s.windows) (sym h) opened
opened_closes (suc n) old new h opened =
    let one = h.2 in
    let rest = opened-rest h.0.clock h.0.windows one.handed_in.rest one.handed_in.heard one.handed_in.oldest (opened_closes n old h.0 h.1 opened) in
    subst (λ now. All (λ w. w.opened ≤ now) new.windows) (sym (closed_clock h.0 new one))
    (subst (λ (ws : List Window). All (λ w. w.opened ≤ h.0.clock) ws) (sym (closed_windows h.0 new one)) rest)

module _
    (close : (w : Window) (ws : List Window) (arrivals : List Arrival) (closed now : ℕ) → StandFor (w ∷ ws) arrivals closed now → is_due now w ≡ true
    → StandFor ws arrivals (closed + 1) now)
    (wait : (ws : List Window) (arrivals : List Arrival) (closed now later : ℕ) → StandFor ws arrivals closed now → now ≤ later → StandFor ws arrivals closed later)
    (arrivals : List Arrival) where
  stand_closes : (n : ℕ) (old new : CoreState) (closed : ℕ) → Closes n old new → StandFor old.windows arrivals closed old.clock → StandFor new.windows arrivals (closed + n) new.clock
  stand_closes zero old new closed h s =
      let none : closed ≡ closed + 0 = omega arith in
      subst (λ k. StandFor new.windows arrivals k new.clock) none (subst (λ (s : CoreState). StandFor s.windows arrivals closed s.clock) (sym h) s)
  stand_closes (suc n) old new closed h s =
      let one = h.2 in
      let before = stand_closes n old h.0 closed h.1 s in
      let oldest = one.handed_in.oldest in
      let rest = close oldest.window one.handed_in.rest arrivals (closed + n) h.0.clock
      (subst (λ (ws : List Window). StandFor ws arrivals (closed + n) h.0.clock) oldest.oldest before) oldest.due in
      let count : (closed + n) + 1 ≡ closed + suc n = omega arith in
      subst (λ k. StandFor new.windows arrivals k new.clock) count
      (subst (λ now. StandFor new.windows arrivals ((closed + n) + 1) now) (sym (closed_clock h.0 new one))
      (subst (λ (ws : List Window). StandFor ws arrivals ((closed + n) + 1) h.0.clock) (sym (closed_windows h.0 new one)) rest))

  -- at the moment of an event, after its closings
  stand_between : (old between : CoreState) (moment closed : ℕ) → HasClosed (core_at_moment old moment) between → StandFor old.windows arrivals closed old.clock
      → StandFor between.windows arrivals (closed + between.closings) between.clock
  stand_between old between moment closed h s =
      let at : old.clock ≤ max old.clock moment = omega arith in
      let last = stand_closes between.closings (core_at_moment old moment) h.last closed h.closed (wait old.windows arrivals closed old.clock (max old.clock moment) s at) in
      subst (λ (ws : List Window). StandFor ws arrivals (closed + between.closings) between.clock) (sym (ap (λ (s : CoreState). s.windows) h.new_is))
      (subst (λ now. StandFor h.last.windows arrivals (closed + between.closings) now) (sym (ap (λ (s : CoreState). s.clock) h.new_is)) last)

  stand_kept : (between new : CoreState) (closed : ℕ) → Keeps between new → StandFor between.windows arrivals (closed + between.closings) between.clock
      → StandFor new.windows arrivals (closed + new.closings) new.clock
  stand_kept between new closed keeps s =
      subst (λ k. StandFor new.windows arrivals (closed + k) new.clock) (sym keeps.closings)
      (subst (λ now. StandFor new.windows arrivals (closed + between.closings) now) (sym keeps.clock)
      (subst (λ (ws : List Window). StandFor ws arrivals (closed + between.closings) between.clock) (sym keeps.windows) s))

  -- an event that accepts no copy
  stand_turned : (Own : CoreState → Option Refusal → CoreState → Type 0) → ((s : CoreState) (refused : Option Refusal) (new : CoreState) → Own s refused new → Keeps s new)
      → (old new : CoreState) (moment closed : ℕ) (turn : Turn) → IsTurn old moment Own turn new → StandFor old.windows arrivals closed old.clock
      → StandFor new.windows arrivals (closed + new.closings) new.clock
  stand_turned Own kept old new moment closed turn h s = by (has_due h.between) h.own
    where
      between : StandFor h.between.windows arrivals (closed + h.between.closings) h.between.clock
      between = stand_between old h.between moment closed h.closed s

      by : (b : Bool) → MatchBool b (Starves h.between turn.refused new) (Own h.between turn.refused new) → StandFor new.windows arrivals (closed + new.closings) new.clock
      by true own = stand_kept h.between new closed (keeps-same h.between new own.1) between
      by false own = stand_kept h.between new closed (kept h.between turn.refused new own) between

  pub stand-asked : (command : Command) (old new : CoreState) (moment closed : ℕ) (turn : Turn) → IsTurn old moment (Asks command) turn new
      → StandFor old.windows arrivals closed old.clock → StandFor new.windows arrivals (closed + new.closings) new.clock
  stand-asked command old new moment closed turn h s = stand_turned (Asks command) (keeps-asked command) old new moment closed turn h s

  pub stand-ticked : (old new : CoreState) (moment closed : ℕ) (turn : Turn) → IsTurn old moment Ticks turn new
      → StandFor old.windows arrivals closed old.clock → StandFor new.windows arrivals (closed + new.closings) new.clock
  stand-ticked old new moment closed turn h s = stand_turned Ticks keeps-ticked old new moment closed turn h s

  -- an event for which memory ran out
  pub stand-missed : (copy : FrameCopy) (old new : CoreState) (moment closed : ℕ) (turn : Turn) → IsTurn old moment Starves turn new
      → StandFor old.windows arrivals closed old.clock → StandFor new.windows (with_copy turn.refused new.clock copy arrivals) (closed + new.closings) new.clock
  stand-missed copy old new moment closed turn h s =
      subst (λ refused. StandFor new.windows (with_copy refused new.clock copy arrivals) (closed + new.closings) new.clock) (sym (starved (has_due h.between) h.own).0)
      (stand_turned Starves (λ s refused new own. keeps-same s new own.1) old new moment closed turn h s)
    where
      starved : (b : Bool) → MatchBool b (Starves h.between turn.refused new) (Starves h.between turn.refused new) → Starves h.between turn.refused new
      starved true own = own
      starved false own = own

  module _
      (add : (ws after : List Window) (arrivals : List Arrival) (closed now : ℕ) (copy : FrameCopy) → StandFor ws arrivals closed now → IsCurrent now ws → windows_with ws now copy ≡ Ok after
      → StandFor after (arrivals ++ arrival now copy ∷ []) closed now) where
    -- a copy comes
    pub stand-heard : (copy : FrameCopy) (old new : CoreState) (moment closed : ℕ) (turn : Turn) → IsTurn old moment (Hears copy) turn new
        → All (λ w. w.opened ≤ old.clock) old.windows
        → StandFor old.windows arrivals closed old.clock → StandFor new.windows (with_copy turn.refused new.clock copy arrivals) (closed + new.closings) new.clock
    stand-heard copy old new moment closed turn h opened s = by (has_due h.between) refl h.own
      where
        between : StandFor h.between.windows arrivals (closed + h.between.closings) h.between.clock
        between = stand_between old h.between moment closed h.closed s

        Stands : Option Refusal → Type 0
        Stands refused = StandFor new.windows (with_copy refused new.clock copy arrivals) (closed + new.closings) new.clock

        opened_there : All (λ w. w.opened ≤ h.between.clock) h.between.windows
        opened_there =
            let at : old.clock ≤ max old.clock moment = omega arith in
            let last = opened_closes h.between.closings (core_at_moment old moment) h.closed.last h.closed.closed (opened-later old.clock (max old.clock moment) old.windows at opened) in
            subst (λ (s : CoreState). All (λ w. w.opened ≤ s.clock) s.windows) (sym h.closed.new_is) last

        taken : (ws : List Window) → has_due h.between ≡ false → windows_with h.between.windows h.between.clock copy ≡ Ok ws → new ≡ record h.between { windows = ws } → Stands None
        taken ws none found is =
            subst (λ (n : CoreState). StandFor n.windows (arrivals ++ arrival n.clock copy ∷ []) (closed + n.closings) n.clock) (sym is)
            (add h.between.windows ws arrivals (closed + h.between.closings) h.between.clock copy between (is-current h.between.clock h.between.windows opened_there none) found)

        not_there : (e : Refusal) → ◌≡◌ {A = Result (Unit {0}) Refusal} (Ok tt) (Err e) → ⊥
        not_there e h = cc

        found : (outcome : Result (List Window) Refusal) → windows_with h.between.windows h.between.clock copy ≡ outcome → has_due h.between ≡ false
            → Answers outcome (λ ws _. new ≡ record h.between { windows = ws }) (verdict_of None) → Stands None
        found (Ok ws) at none h = taken ws none at h
        found (Err e) at none h = absurd (not_there e h)

        own_by : (refused : Option Refusal) → has_due h.between ≡ false → Hears copy h.between refused new → Stands refused
        own_by None none own = found (windows_with h.between.windows h.between.clock copy) refl none (own.receivable own.known)
        own_by (Some e) none own = stand_kept h.between new closed (keeps-same h.between new own.same) between

        starved_by : (refused : Option Refusal) → Starves h.between refused new → Stands refused
        starved_by None own = absurd (not_starved own.0)
          where
            not_starved : {e : Refusal} → ◌≡◌ {A = Option Refusal} None (Some e) → ⊥
            not_starved h = cc
        starved_by (Some e) own = stand_kept h.between new closed (keeps-same h.between new own.1) between

        by : (b : Bool) → has_due h.between ≡ b → MatchBool b (Starves h.between turn.refused new) (Hears copy h.between turn.refused new) → Stands turn.refused
        by true is own = starved_by turn.refused own
        by false is own = own_by turn.refused is own
