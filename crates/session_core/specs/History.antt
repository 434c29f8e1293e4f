-- The history of a life's decisions, and what an event adds to it.
use Rattle.std.specs.Prelude.{◌≡◌, ◌≢◌, ◌≤◌, ◌==◌, ◌++◌, ◌∷◌, [], ℕ, true, List, All, MatchBool}
use Rattle.std.specs.Prelude.{Some, drop, length, map}
use Rattle.lw_types.specs.declared.refusal.Refusal.TheVariants.{OutOfMemory}
use Rattle.logbook.specs.Pages.{Book, Cell, Named, Step, View}
use Rattle.devices.specs.declared.command.Command.{Command}
use Rattle.dedup.specs.Windows.{Window}
use Rattle.session_core.specs.State.{DecisionsState}
use Rattle.session_core.specs.Handling.{Handling, command_in, decisions_in, frames_in, refusal_in}
use Rattle.session_core.specs.declared.event.Event.{Event}
use Rattle.session_core.specs.declared.event.Event.TheVariants.{Hear, Tick, Ask}
use Rattle.session_core.specs.declared.turn.Turn.{Turn}
use Rattle.sessions.specs.declared.decision.Decision.{Decision}

-- the first of the two words of a book is the length of its log
pub record IsHistory (cells : List Cell) (log : List Decision) : Type 0 where
  pub words : cells ≡ (length log, true) ∷ (0, true) ∷ []

abbrev pub length_word_of : Book → Named
length_word_of b = record { tracked = true; key = 0; book = b }

-- a decision was added to all that had been seen; or the log is longer, and was seen
abbrev pub AppendsDecision : Step Decision → View Decision ℕ → ℕ → View Decision ℕ → Type 0
AppendsDecision s v found w =
    MatchBool (found == s.old) (w.0 ≡ v.0 ++ s.ask ∷ []) (length w.0 ≡ found)

-- the history has each decision, and those that wait are its end
pub record HasAllDecisions (s : DecisionsState) (history : List Decision) : Type 0 where
  pub rest : s.log ≡ drop s.taken history
  pub made : s.made ≡ length history

-- the history lacks none, or only the last ones, of the decisions that wait
pub record LacksOnly (s : DecisionsState) (history : List Decision) : Type 0 where
  pub taken : s.taken ≤ length history
  pub lacked : List Decision
  pub rest : s.log ≡ drop s.taken history ++ lacked

-- the command that an event brings itself, if there is one
abbrev pub own_commands : Event → List Command
own_commands (Hear copy) = []
own_commands Tick = []
own_commands (Ask command) = command ∷ []

-- What an event added to a history. It handed in the frames of these windows, in order, and none
-- was refused with OutOfMemory. Then it handed in its own command, if it has one, refused as the
-- turn says. The decisions that these became have the numbers that the turn gives.
pub record HasAdded (event : Event) (turn : Turn) (history : List Decision) : Type 0 where
  pub windows : List Window
  pub closed : List Handling
  pub asked : List Handling
  pub frames : map command_in closed ≡ frames_in windows
  pub in_memory : All (λ h. refusal_in h ≢ Some OutOfMemory) closed
  pub own : map command_in asked ≡ own_commands event
  pub refused : All (λ h. refusal_in h ≡ turn.refused) asked
  pub there : drop turn.from history ≡ decisions_in (closed ++ asked)
  pub to : turn.to ≡ length history
