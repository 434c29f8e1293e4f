-- What a turn adds to a history.
use Rattle.std.proofs.Common.{◌≡◌, ◌≤◌, ◌+◌, ◌∙◌, ℕ, List, ◌++◌, drop, length, take, sym, ap, arith}
use Rattle.sessions.specs.declared.decision.Decision.{Decision}
use Rattle.session_core.specs.Calls.{work_of}
use Rattle.session_core.specs.Core.{CoreState, IsLawfulCore}
use Rattle.session_core.specs.Events.{IsTurn}
use Rattle.session_core.specs.Handling.{IsWholeTurn, decisions_in}
use Rattle.session_core.specs.History.{HasAdded, HasAllDecisions, LacksOnly, own_commands}
use Rattle.session_core.specs.declared.event.Event.{Event}
use Rattle.session_core.specs.declared.event.Event.TheVariants.{Hear, Tick, Ask}
use Rattle.session_core.specs.declared.outcome.TheConstants.{MOST_OUTCOMES}
use Rattle.session_core.specs.declared.turn.Turn.{Turn}
use Rattle.session_core.proofs.Extending.{drop_joined}
use Rattle.session_core.proofs.HandingIn.{Joins, asked-whole, drop_further, heard-whole, ticked-whole}

pub event_whole : Joins → (event : Event) (old new : CoreState) (moment : ℕ) (turn : Turn)
    → IsTurn old moment (work_of event) turn new → IsLawfulCore old → length old.outcomes ≤ MOST_OUTCOMES
    → IsWholeTurn old (own_commands event) turn new
event_whole joins (Hear copy) old new moment turn is lawful few = heard-whole joins copy old new moment turn is lawful few
event_whole joins Tick old new moment turn is lawful few = ticked-whole joins old new moment turn is lawful few
event_whole joins (Ask command) old new moment turn is lawful few = asked-whole joins command old new moment turn is lawful few

module _ (event : Event) (old new : CoreState) (turn : Turn) (lawful : IsLawfulCore old)
    (whole : IsWholeTurn old (own_commands event) turn new) (taken : new.decisions.taken ≡ old.decisions.taken) where
  -- after a turn a history that was whole lacks the turn's decisions
  pub then_lacks : (history : List Decision) → HasAllDecisions old.decisions history → LacksOnly new.decisions history
  then_lacks history before =
      let count = lawful.decisions.count in
      let made = before.made in
      record {
        taken = omega (arith, taken, count, made);
        lacked = decisions_in (whole.closed ++ whole.asked);
        rest =
            whole.handed.log
            ∙ ap (λ (l : List Decision). l ++ decisions_in (whole.closed ++ whole.asked))
            (before.rest ∙ ap (λ n. drop n history) (sym taken));
      }

  -- and if it is whole again, it ends with them
  pub then_added : (history : List Decision) → HasAllDecisions new.decisions history → HasAdded event turn history
  then_added history after =
      let from : turn.from ≡ old.decisions.taken + length old.decisions.log = whole.from ∙ sym lawful.decisions.count in
      let log : drop old.decisions.taken history ≡ old.decisions.log ++ decisions_in (whole.closed ++ whole.asked) =
      ap (λ n. drop n history) (sym taken) ∙ (sym after.rest ∙ whole.handed.log) in
      record {
        windows = take new.closings old.windows;
        closed = whole.closed;
        asked = whole.asked;
        frames = whole.frames;
        in_memory = whole.in_memory;
        own = whole.own_command;
        refused = whole.refused;
        there =
            ap (λ n. drop n history) from
            ∙ (sym (drop_further old.decisions.taken (length old.decisions.log) history)
            ∙ (ap (drop (length old.decisions.log)) log
            ∙ drop_joined old.decisions.log (decisions_in (whole.closed ++ whole.asked))));
        to =
            let to = whole.to in
            let from = whole.from in
            let made = whole.handed.made in
            let is = after.made in
            omega (arith, to, from, made, is);
      }
