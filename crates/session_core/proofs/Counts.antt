-- How an event changes the numbers made and taken.
use Rattle.std.proofs.Common.{◌≡◌, ◌≤◌, ◌+◌, ◌∙◌, ℕ, zero, suc, Bool, true, false, Option, Result, Ok, Err, refl, sym, ap, subst, arith, rules}
use Rattle.std.specs.Bool.{MatchBool}
use Rattle.lw_types.specs.Answer.{Answers, AnswersWithMemory}
use Rattle.lw_types.specs.declared.refusal.Refusal.{Refusal}
use Rattle.lw_types.specs.declared.refusal.Refusal.TheVariants.{OutOfMemory}
use Rattle.lw_types.specs.declared.frame_copy.FrameCopy.{FrameCopy}
use Rattle.devices.specs.declared.command.Command.{Command}
use Rattle.sessions.specs.Table.{TableStep}
use Rattle.sessions.specs.Decision.{is_frugal}
use Rattle.session_core.specs.State.{DecisionsState}
use Rattle.session_core.specs.Core.{CoreState, with_outcome}
use Rattle.session_core.specs.Deciding.{Keeps, Makes, verdict_of, step_if_room}
use Rattle.session_core.specs.Calls.{work_of}
use Rattle.session_core.specs.Events.{Closes, Handles, HasClosed, Hears, IsTurn, Starves, has_due, core_at_moment}
use Rattle.session_core.specs.declared.event.Event.{Event}
use Rattle.session_core.specs.declared.event.Event.TheVariants.{Hear, Tick, Ask}
use Rattle.session_core.specs.declared.turn.Turn.{Turn}

-- the number made doesn't fall, and nothing is taken
pub record Grows (old new : DecisionsState) : Type 0 where
  pub made : old.made ≤ new.made
  pub taken : new.taken ≡ old.taken

same-grows : (old new : DecisionsState) → new ≡ old → Grows old new
same-grows old new is =
    let m : new.made ≡ old.made = ap (λ (s : DecisionsState). s.made) is in
    record { made = omega (arith, m); taken = ap (λ (s : DecisionsState). s.taken) is }

then-grows : (a b c : DecisionsState) → Grows a b → Grows b c → Grows a c
then-grows a b c h k =
    let x = h.made in
    let y = k.made in
    record { made = omega arith; taken = k.taken ∙ h.taken }

makes-grows : (command : Command) (step : TableStep) (old new : DecisionsState) → Makes old command step new → Grows old new
makes-grows command step old new h =
    let m : new.made ≡ old.made + 1 = ap (λ (s : DecisionsState). s.made) h.new_is in
    record { made = omega (arith, m); taken = ap (λ (s : DecisionsState). s.taken) h.new_is }

made-grows : (frugal : Bool) (command : Command) (want : Result TableStep Refusal) (old new : DecisionsState) (done : Unit {0})
    → MatchBool frugal (Answers want (λ s _. Makes old command s new) (Ok done)) (AnswersWithMemory want (λ s _. Makes old command s new) (Ok done))
    → Grows old new
made-grows true command (Ok step) old new done h = makes-grows command step old new h
made-grows true command (Err refusal) old new done h = absurd (search (rules, h))
made-grows false command (Ok step) old new done h = makes-grows command step old new h
made-grows false command (Err refusal) old new done h = absurd h

kept-grows : (command : Command) (result : Result (Unit {0}) Refusal) (old new : DecisionsState) → Keeps old command result new → Grows old new
kept-grows command (Ok done) old new h = made-grows (is_frugal command (step_if_room old command)) command (step_if_room old command) old new done h.made
kept-grows command (Err refusal) old new h = same-grows old new h.same

pub outcome-decisions : (s : CoreState) (d : DecisionsState) (r : Result (Unit {0}) Refusal) → (with_outcome s d r).decisions ≡ d
outcome-decisions s d (Ok done) = refl
outcome-decisions s d (Err OutOfMemory) = refl
outcome-decisions s d (Err refusal) = refl

handled-grows : (command : Command) (result : Result (Unit {0}) Refusal) (old new : CoreState) → Handles old command result new → Grows old.decisions new.decisions
handled-grows command result old new h =
    let is : new.decisions ≡ h.decisions = ap (λ (s : CoreState). s.decisions) h.new_is ∙ outcome-decisions old h.decisions result in
    subst (λ (d : DecisionsState). Grows old.decisions d) (sym is) (kept-grows command result old.decisions h.decisions h.kept)

closes-grows : (n : ℕ) (old new : CoreState) → Closes n old new → Grows old.decisions new.decisions
closes-grows zero old new h = same-grows old.decisions new.decisions (ap (λ (s : CoreState). s.decisions) h)
closes-grows (suc n) old new h =
    let one = h.2 in
    let is : new.decisions ≡ one.between.decisions = ap (λ (s : CoreState). s.decisions) one.new_is in
    let last = subst (λ (d : DecisionsState). Grows h.0.decisions d) (sym is) (handled-grows _ one.result h.0 one.between one.handed_in.handled) in
    then-grows old.decisions h.0.decisions new.decisions (closes-grows n old h.0 h.1) last

closed-grows : (old new : CoreState) → HasClosed old new → Grows old.decisions new.decisions
closed-grows old new h =
    let is : new.decisions ≡ h.last.decisions = ap (λ (s : CoreState). s.decisions) h.new_is in
    subst (λ (d : DecisionsState). Grows old.decisions d) (sym is) (closes-grows new.closings old h.last h.closed)

module _ (Own : CoreState → Option Refusal → CoreState → Type 0)
    (own-grows : (s : CoreState) (refused : Option Refusal) (new : CoreState) → Own s refused new → Grows s.decisions new.decisions) where
  ends-grows : (due : Bool) (s new : CoreState) (refused : Option Refusal) → MatchBool due (Starves s refused new) (Own s refused new) → Grows s.decisions new.decisions
  ends-grows true s new refused h = same-grows s.decisions new.decisions (ap (λ (s : CoreState). s.decisions) h.1)
  ends-grows false s new refused h = own-grows s refused new h

  pub turn-grows : (old new : CoreState) (moment : ℕ) (turn : Turn) → IsTurn old moment Own turn new → Grows old.decisions new.decisions
  turn-grows old new moment turn h =
      then-grows old.decisions h.between.decisions new.decisions
      (closed-grows (core_at_moment old moment) h.between h.closed)
      (ends-grows (has_due h.between) h.between new turn.refused h.own)

heard-grows : (copy : FrameCopy) (s new : CoreState) (refused : Option Refusal) → Hears copy s refused new → Grows s.decisions new.decisions
heard-grows copy s new refused h = search (rules, h)

worked-grows : (event : Event) (s : CoreState) (refused : Option Refusal) (new : CoreState) → work_of event s refused new → Grows s.decisions new.decisions
worked-grows (Hear copy) s refused new h = heard-grows copy s new refused h
worked-grows Tick s refused new h = same-grows s.decisions new.decisions (ap (λ (s : CoreState). s.decisions) h.1)
worked-grows (Ask command) s refused new h = handled-grows command (verdict_of refused) s new h

pub event-grows : (event : Event) (old new : CoreState) (moment : ℕ) (turn : Turn) → IsTurn old moment (work_of event) turn new → Grows old.decisions new.decisions
event-grows event = turn-grows (work_of event) (worked-grows event)
