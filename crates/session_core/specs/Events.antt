-- What an event does: it closes the windows that are due, and then does its own work.
use Rattle.std.specs.Prelude.{◌≡◌, ◌≢◌, ℕ, zero, suc, max, Bool, List, Option, Some, None, Result}
use Rattle.std.specs.Prelude.{◌^◌, Err, OnErr, OnOk, MatchBool}
use Rattle.std.specs.List.{list_any}
use Rattle.lw_types.specs.Answer.{Answers}
use Rattle.lw_types.specs.declared.refusal.Refusal.{Refusal}
use Rattle.lw_types.specs.declared.refusal.Refusal.TheVariants.{OutOfMemory, UnknownChannel}
use Rattle.lw_types.specs.declared.frame_copy.FrameCopy.{FrameCopy}
use Rattle.devices.specs.Heard.{IsReceivable}
use Rattle.devices.specs.declared.heard.Heard.{Heard}
use Rattle.devices.specs.declared.command.Command.{Command}
use Rattle.devices.specs.declared.command.Command.TheVariants as commands
use Rattle.dedup.specs.Windows.{Window, IsOldestDue, due_before, is_due, windows_with}
use Rattle.session_core.specs.State.{DecisionsState}
use Rattle.session_core.specs.Deciding.{Keeps, verdict_of}
use Rattle.session_core.specs.Core.{CoreState, with_outcome}
use Rattle.session_core.specs.declared.turn.Turn.{Turn}

-- a command was handed in with this result, which is noted
pub record Handles (old : CoreState) (command : Command) (result : Result (Unit {0}) Refusal)
    (new : CoreState) : Type 0 where
  pub decisions : DecisionsState
  pub kept : Keeps old.decisions command result decisions
  pub new_is : new ≡ with_outcome old decisions result

-- the oldest window is due, and what was heard in it was handed in
pub record HandsInOldest (old : CoreState) (result : Result (Unit {0}) Refusal)
    (new : CoreState) : Type 0 where
  pub heard : Heard
  pub rest : List Window
  pub oldest : IsOldestDue old.clock old.windows heard rest
  pub handled : Handles old (commands.Heard heard) result new

-- and the window was closed, since memory was available
pub record ClosesOldest (old new : CoreState) : Type 0 where
  pub result : Result (Unit {0}) Refusal
  pub between : CoreState
  pub handed_in : HandsInOldest old result between
  pub there_was_memory : result ≢ Err OutOfMemory
  pub new_is : new ≡ record between { windows = handed_in.rest }

-- n windows were closed, one after another
abbrev pub Closes : ℕ → CoreState → CoreState → Type 0
Closes zero old new = new ≡ old
Closes (suc n) old new = (before : CoreState) × Closes n old before × ClosesOldest before new

-- some windows were closed and counted
pub record HasClosed (old new : CoreState) : Type 0 where
  pub last : CoreState
  pub closed : Closes new.closings old last
  pub new_is : new ≡ record last { closings = new.closings }

-- the effective time never falls
abbrev pub core_at_moment : CoreState → ℕ → CoreState
core_at_moment s moment = record s { clock = max s.clock moment; closings = 0 }

-- the moment at which the oldest window is due, if there is such a moment
abbrev pub next_due : CoreState → Option ℕ
next_due s = due_before (2 ^ 63) s.windows

-- whether a window is due
abbrev pub has_due : CoreState → Bool
has_due s = list_any (is_due s.clock) s.windows

-- memory ran out for a closing: the remaining windows stay open, and the event's own work isn't
-- done
abbrev pub Starves : CoreState → Option Refusal → CoreState → Type 0
Starves s refused new = (refused ≡ Some OutOfMemory) × (new ≡ s)

-- An event: at its moment it closes the windows that are due, in the order of opening, and then
-- does its own work. The turn says which decisions were made, and why the event's own command was
-- refused.
pub record IsTurn (old : CoreState) (moment : ℕ)
    (Own : CoreState → Option Refusal → CoreState → Type 0) (turn : Turn)
    (new : CoreState) : Type 0 where
  pub between : CoreState
  pub closed : HasClosed (core_at_moment old moment) between
  pub own : MatchBool (has_due between) (Starves between turn.refused new)
      (Own between turn.refused new)
  pub from : turn.from ≡ old.decisions.made
  pub to : turn.to ≡ new.decisions.made

-- the work of a command: it is handed in
abbrev pub Asks : Command → CoreState → Option Refusal → CoreState → Type 0
Asks command s refused new = Handles s command (verdict_of refused) new

-- the work of a moment alone: nothing
abbrev pub Ticks : CoreState → Option Refusal → CoreState → Type 0
Ticks s refused new = (refused ≡ None) × (new ≡ s)

-- The work of a copy of a frame: if it is on a channel and at a data rate that a device may use, a
-- window takes it, or it is refused as the windows refuse it.
pub record IsHeard (copy : FrameCopy) (old : CoreState) (result : Result (Unit {0}) Refusal)
    (new : CoreState) : Type 0 where
  pub receivable : IsReceivable copy.reception
      → Answers (windows_with old.windows old.clock copy)
      (λ ws _. new ≡ record old { windows = ws }) result
  pub known : OnOk result (IsReceivable copy.reception)
  pub unknown : ¬ (IsReceivable copy.reception) → result ≡ Err UnknownChannel
  pub same : OnErr result (new ≡ old)

abbrev pub Hears : FrameCopy → CoreState → Option Refusal → CoreState → Type 0
Hears copy s refused new = IsHeard copy s (verdict_of refused) new
