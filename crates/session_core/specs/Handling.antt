-- A turn in whole lists: the commands that were handed in, and the result of each.
use Rattle.std.specs.Prelude.{◌≡◌, ◌≢◌, ◌+◌, List, ◌++◌, length, map, take, All, Option}
use Rattle.std.specs.Prelude.{Some, None}
use Rattle.std.specs.List.{filter_map}
use Rattle.circular_buffer.specs.Buffer.{keep_last}
use Rattle.lw_types.specs.declared.refusal.Refusal.{Refusal}
use Rattle.lw_types.specs.declared.refusal.Refusal.TheVariants.{OutOfMemory}
use Rattle.devices.specs.declared.command.Command.{Command}
use Rattle.devices.specs.declared.command.Command.TheVariants as commands
use Rattle.sessions.specs.Decision.{ContinueAll}
use Rattle.sessions.specs.declared.decision.Decision.{Decision}
use Rattle.dedup.specs.Windows.{Window, heard_in}
use Rattle.session_core.specs.State.{now_of, last_number}
use Rattle.session_core.specs.Core.{CoreState}
use Rattle.session_core.specs.declared.outcome.TheConstants.{MOST_OUTCOMES}
use Rattle.session_core.specs.declared.outcome.Outcome.{Outcome}
use Rattle.session_core.specs.declared.outcome.Outcome.TheVariants.{Decided, Refused}
use Rattle.session_core.specs.declared.turn.Turn.{Turn}

-- a command that was handed in: the decision that it became, or why it was refused
pub data Handling : Type 0 where
  Became : Decision → Handling
  WasRefused : Command → Refusal → Handling

abbrev pub command_in : Handling → Command
command_in (Became d) = d.command
command_in (WasRefused command refusal) = command

abbrev pub refusal_in : Handling → Option Refusal
refusal_in (Became d) = None
refusal_in (WasRefused command refusal) = Some refusal

abbrev pub decision_in : Handling → Option Decision
decision_in (Became d) = Some d
decision_in (WasRefused command refusal) = None

-- out of memory is no outcome
abbrev pub outcome_in : Handling → Option Outcome
outcome_in (Became d) = Some (Decided d.seq)
outcome_in (WasRefused command OutOfMemory) = None
outcome_in (WasRefused command refusal) = Some (Refused refusal)

abbrev pub decisions_in : List Handling → List Decision
decisions_in handed = filter_map decision_in handed

abbrev pub outcomes_in : List Handling → List Outcome
outcomes_in handed = filter_map outcome_in handed

-- what was heard in these windows
abbrev pub frames_in : List Window → List Command
frames_in windows = map (λ w. commands.Heard (heard_in w)) windows

-- The log grew by exactly the decisions of these commands, which continue what was decided before.
-- The outcomes are the last 64 of the old ones and theirs.
pub record HandlesAll (old : CoreState) (handed : List Handling) (new : CoreState) : Type 0 where
  pub log : new.decisions.log ≡ old.decisions.log ++ decisions_in handed
  pub made : new.decisions.made ≡ old.decisions.made + length (decisions_in handed)
  pub continue : ContinueAll (now_of old.decisions) (last_number old.decisions)
      (decisions_in handed)
  pub outcomes : new.outcomes ≡ keep_last MOST_OUTCOMES (old.outcomes ++ outcomes_in handed)

-- What a turn handed in. First come the frames of the windows that it closed, which are the first
-- of the open ones; none of them was refused with OutOfMemory. Then comes the event's own command,
-- if it has one, refused as the turn says. The turn gives the numbers of their decisions.
pub record IsWholeTurn (old : CoreState) (own : List Command) (turn : Turn)
    (new : CoreState) : Type 0 where
  pub closed : List Handling
  pub asked : List Handling
  pub frames : map command_in closed ≡ frames_in (take new.closings old.windows)
  pub in_memory : All (λ h. refusal_in h ≢ Some OutOfMemory) closed
  pub own_command : map command_in asked ≡ own
  pub refused : All (λ h. refusal_in h ≡ turn.refused) asked
  pub handed : HandlesAll old (closed ++ asked) new
  pub from : turn.from ≡ old.decisions.made
  pub to : turn.to ≡ turn.from + length (decisions_in (closed ++ asked))
