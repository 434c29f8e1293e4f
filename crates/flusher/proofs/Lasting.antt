-- What has left over several lives.
use Rattle.std.proofs.Common.{◌≡◌, List, [], ◌∷◌, ◌++◌, subst, sym, true, false}
use Rattle.devices.specs.declared.command.Command.{Command}
use Rattle.devices.specs.declared.effect.Effect.{Effect}
use Rattle.sessions.specs.Marks.{IsSubsequence}
use Rattle.sessions.specs.Table.{TableState, effects_of, fold_of}
use Rattle.flusher.specs.Lives.{LifeEvent, Lives, lives_after, lives_after_all}
use Rattle.flusher.specs.Lives.LifeEvent.{Released, Torn, Opened}

-- The effects of two runs of commands are those of both in order, and parts of lists stay parts.
pub record PartLaws : Type 0 where
  pub composed : (t : TableState) (first second : List Command)
      → effects_of t (first ++ second) ≡ effects_of t first ++ effects_of (fold_of t first) second
  pub longer : (left whole more : List Effect) → IsSubsequence left whole → IsSubsequence left (whole ++ more)
  pub extended : (left whole more : List Effect) → IsSubsequence left whole → IsSubsequence (left ++ more) (whole ++ more)

abbrev IsPart : TableState → Lives → Type 0
IsPart t lives = IsSubsequence lives.left (effects_of t lives.durable)

part_after : PartLaws → (t : TableState) (lives : Lives) (event : LifeEvent) → IsPart t lives → IsPart t (lives_after t lives event)
part_after laws t lives (Released commands) h =
    subst (λ es. IsSubsequence (lives.left ++ effects_of (fold_of t lives.durable) commands) es) (sym (laws.composed t lives.durable commands))
    (laws.extended lives.left (effects_of t lives.durable) (effects_of (fold_of t lives.durable) commands) h)
part_after laws t lives (Torn commands) h = h
part_after laws t lives (Opened true) h =
    subst (λ es. IsSubsequence lives.left es) (sym (laws.composed t lives.durable lives.torn))
    (laws.longer lives.left (effects_of t lives.durable) (effects_of (fold_of t lives.durable) lives.torn) h)
part_after laws t lives (Opened false) h = h

pub part_after_all : PartLaws → (t : TableState) (lives : Lives) (events : List LifeEvent) → IsSubsequence lives.left (effects_of t lives.durable)
    → IsSubsequence (lives_after_all t lives events).left (effects_of t (lives_after_all t lives events).durable)
part_after_all laws t lives [] h = h
part_after_all laws t lives (event ∷ events) h = part_after_all laws t (lives_after t lives event) events (part_after laws t lives event h)
