-- What the definitions of the table say of whole runs.
use Rattle.std.specs.Prelude.{◌≡◌, ◌+◌, ◌++◌, ℕ, List, length}
use Rattle.devices.specs.declared.command.Command.{Command}
use Rattle.devices.specs.declared.effect.Effect.{Effect}
use Rattle.sessions.specs.Marks.{IsSubsequence}
use Rattle.sessions.specs.Table.{TableState, fold_of, effects_of}
use Rattle.sessions.specs.Decision.{ContinueAll, FitAll, with_decisions, commands_of, effects_in}
use Rattle.sessions.specs.declared.decision.Decision.{Decision}

-- Decisions that continue a table leave the fold of their commands and have its effects, runs join,
-- and parts of effects stay parts.
pub record RunLaws : Type 0 where
  pub folding : (t : TableState) (ds : List Decision) → FitAll t ds
      → fold_of t (commands_of ds) ≡ with_decisions t ds
  pub effects : (t : TableState) (ds : List Decision) → FitAll t ds
      → effects_of t (commands_of ds) ≡ effects_in ds
  pub joined : (t : TableState) (first second : List Command)
      → fold_of t (first ++ second) ≡ fold_of (fold_of t first) second
  pub joined_effects : (t : TableState) (first second : List Command)
      → effects_of t (first ++ second) ≡ effects_of t first ++ effects_of (fold_of t first) second
  pub split : (t : TableState) (seq : ℕ) (first second : List Decision)
      → ContinueAll t seq (first ++ second)
      → ContinueAll t seq first × ContinueAll (with_decisions t first) (seq + length first) second
  pub longer : (left whole more : List Effect) → IsSubsequence left whole
      → IsSubsequence left (whole ++ more)
  pub extended : (left whole more : List Effect) → IsSubsequence left whole
      → IsSubsequence (left ++ more) (whole ++ more)
