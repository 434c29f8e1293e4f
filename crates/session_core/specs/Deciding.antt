-- The result of a command, and what a take leaves.
use Rattle.std.specs.Prelude.{◌≡◌, ◌+◌, ℕ, Bool, false, [], ◌∷◌, ◌++◌, length, take, drop, nat_lt}
use Rattle.std.specs.Prelude.{◌&&◌, if◌then◌else◌, Option, Some, None, Result, Ok, Err, OnErr}
use Rattle.lw_types.specs.declared.refusal.Refusal.{Refusal}
use Rattle.lw_types.specs.declared.refusal.Refusal.TheVariants.{Backlog}
use Rattle.devices.specs.declared.command.Command.{Command}
use Rattle.sessions.specs.Table.{TableStep, step}
use Rattle.sessions.specs.Decision.{AnswersTo, IsDecision, with_decisions}
use Rattle.sessions.specs.declared.decision.Decision.{Decision}
use Rattle.session_core.specs.declared.decisions.TheConstants.{LAST_NUMBER, MOST_UNTAKEN}
use Rattle.session_core.specs.State.{DecisionsState, IsLawful, now_of, last_number}

-- whether there is room for one more waiting decision, and a number for it
abbrev pub has_room : DecisionsState → Bool
has_room s = nat_lt (length s.log) MOST_UNTAKEN && nat_lt (last_number s) LAST_NUMBER

-- what a command gets: if there is room, its step in the table as it is now
abbrev pub step_if_room : DecisionsState → Command → Result TableStep Refusal
step_if_room s command = if has_room s then step (now_of s) command else Err Backlog

-- one more decision, which is this step of the command
pub record Makes (old : DecisionsState) (command : Command) (s : TableStep)
    (new : DecisionsState) : Type 0 where
  pub decision : Decision
  pub is_step : IsDecision (now_of old) (last_number old + 1) command s decision
  pub new_is : new ≡ record old { log = old.log ++ decision ∷ []; made = old.made + 1 }

-- this is the answer to a command when memory is out
abbrev pub IsWithoutMemory : DecisionsState → Command → Refusal → Type 0
IsWithoutMemory s command refusal =
    AnswersTo {B = Unit {0}} command (step_if_room s command) (λ _ _. ⊥) (Err refusal)

-- The result of a command that was handed in: it was decided; or it was refused as it has to be,
-- and nothing changed. A lack of room is known before any memory is taken. The state stays lawful.
pub record Keeps (old : DecisionsState) (command : Command) (result : Result (Unit {0}) Refusal)
    (new : DecisionsState) : Type 0 where
  pub full : has_room old ≡ false → result ≡ Err Backlog
  pub made : AnswersTo command (step_if_room old command) (λ s _. Makes old command s new) result
  pub same : OnErr result (new ≡ old)
  pub lawful : IsLawful new

-- whether a command was decided
abbrev pub verdict_of : Option Refusal → Result (Unit {0}) Refusal
verdict_of None = Ok tt
verdict_of (Some refusal) = Err refusal

-- the first n decisions leave the log, and the base moves past them
abbrev pub after_taking : DecisionsState → ℕ → DecisionsState
after_taking s n =
    record s {
      base = with_decisions s.base (take n s.log);
      taken = s.taken + length (take n s.log);
      log = drop n s.log;
    }
