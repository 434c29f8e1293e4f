-- The state of a core: the decisions of its life, its clock, the open windows, and the outcomes of
-- the last commands.
use Rattle.std.specs.Prelude.{◌≤◌, ℕ, List, [], ◌∷◌, ◌++◌, All, Result, Ok, Err}
use Rattle.circular_buffer.specs.Buffer.{keep_last}
use Rattle.lw_types.specs.declared.refusal.Refusal.{Refusal}
use Rattle.lw_types.specs.declared.refusal.Refusal.TheVariants.{OutOfMemory}
use Rattle.sessions.specs.Table.{TableState}
use Rattle.dedup.specs.Windows.{Window}
use Rattle.session_core.specs.State.{DecisionsState, IsLawful, last_number, new_decisions}
use Rattle.session_core.specs.declared.outcome.TheConstants.{MOST_OUTCOMES}
use Rattle.session_core.specs.declared.outcome.Outcome.{Outcome}
use Rattle.session_core.specs.declared.outcome.Outcome.TheVariants.{Decided, Refused}

-- The decisions; the effective time; the open windows, the oldest first; the number of windows that
-- the last event closed; and the outcomes of the last commands that were handed in, the oldest
-- first.
pub record CoreState : Type 0 where
  pub decisions : DecisionsState
  pub clock : ℕ
  pub windows : List Window
  pub closings : ℕ
  pub outcomes : List Outcome

-- the decisions are lawful, and no window was opened after the effective time
pub record IsLawfulCore (s : CoreState) : Type 0 where
  pub decisions : IsLawful s.decisions
  pub opened : All (λ w. w.opened ≤ s.clock) s.windows

-- the core at the beginning of a life
abbrev pub new_core : TableState → ℕ → CoreState
new_core table seq =
    record {
      decisions = new_decisions table seq;
      clock = 0;
      windows = [];
      closings = 0;
      outcomes = [];
    }

-- the last outcomes are kept
abbrev pub with_last_outcome : CoreState → Outcome → CoreState
with_last_outcome s outcome =
    record s { outcomes = keep_last MOST_OUTCOMES (s.outcomes ++ outcome ∷ []) }

-- the outcome of a command that was decided, which leaves these decisions, or refused; out of
-- memory is no outcome
abbrev pub with_outcome : CoreState → DecisionsState → Result (Unit {0}) Refusal → CoreState
with_outcome s decisions (Ok done) =
    with_last_outcome (record s { decisions = decisions }) (Decided (last_number decisions))
with_outcome s decisions (Err OutOfMemory) = record s { decisions = decisions }
with_outcome s decisions (Err refusal) =
    with_last_outcome (record s { decisions = decisions }) (Refused refusal)
