-- What is committed of the history of a core's decisions.
use Rattle.std.specs.Prelude.{◌≡◌, ◌≤◌, ◌+◌, ◌*◌, ◌++◌, List, [], drop, flat_map, length, Result}
use Rattle.std.specs.Prelude.{MatchResult, OnOk}
use Rattle.std.specs.List.{FoldsTo}
use mathlib.Core.List.{IsPrefix}
use Rattle.devices.specs.declared.effect.Effect.{Effect}
use Rattle.disk.specs.State.{EveryImage}
use Rattle.lw_types.specs.declared.refusal.Refusal.{Refusal}
use Rattle.session_core.specs.Taking.{TakerState}
use Rattle.sessions.specs.Decision.{commands_of}
use Rattle.sessions.specs.Table.{effects_of}
use Rattle.sessions.specs.declared.batch.TheConstants.Batch.{MOST}
use Rattle.sessions.specs.declared.decision.Decision.{Decision}
use Rattle.store.specs.State.{StoreState, IsSettled}
use Rattle.flusher.specs.Cycle.{Commits, HoldsWithOrWithout}

-- What chains did with what a taker took. They committed the decisions that come next in the
-- history, each once and in order, and exactly the effects of these were given away, in order. If
-- no chain was refused, these are all that the history has, as far as it was seen. If one was, at
-- most two batches after them were taken and are given up. A crash may leave the first of these
-- two, the torn one, whose decisions come next.
pub record CommitsTaken {C V T : Type 0} (honest : Type 0) (effects : V → List Effect)
    (call : C → V → C → Type 0) (old new : StoreState) (before after : TakerState)
    (old_out new_out : C) (result : Result T Refusal) : Type 0 where
  pub committed : List Decision
  pub torn : List Decision
  pub next : IsPrefix (committed ++ torn) (drop before.taken after.seen)
  pub seen : IsPrefix before.seen after.seen
  pub commits : Commits old new committed
  pub calls : List V
  pub left : flat_map effects calls ≡ effects_of old.table (commands_of committed)
  pub given : FoldsTo call old_out calls new_out
  pub all : OnOk result ((committed ≡ drop before.taken after.seen)
      × ((torn ≡ []) × (after.taken ≡ length after.seen)))
  pub taken : MatchResult result
      (λ _. after.taken ≡ before.taken + length committed)
      (λ _. (before.taken + length (committed ++ torn) ≤ after.taken)
      × (after.taken ≤ before.taken + length committed + 2 * MOST))
  pub settled : OnOk result (honest → IsSettled old → IsSettled new)
  pub images : honest → IsSettled old → EveryImage new.log.disk (HoldsWithOrWithout new torn)
