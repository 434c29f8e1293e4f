-- What a taker says of its takes.
use Rattle.std.specs.Prelude.{◌≡◌, ◌⊎◌, ◌+◌, ◌≤◌, ◌<◌, ℕ, List, [], drop, length, Result}
use Rattle.std.specs.Prelude.{MatchResult}
use mathlib.Core.List.{IsPrefix}
use Rattle.lw_types.specs.declared.refusal.Refusal.{Refusal}
use Rattle.lw_types.specs.declared.refusal.Refusal.TheVariants.{OutOfMemory, OutOfStep}
use Rattle.sessions.specs.declared.decision.Decision.{Decision}

-- how many decisions were taken, and the history as far as it was seen
pub record TakerState : Type 0 where
  pub taken : ℕ
  pub seen : List Decision

-- a taker that has taken nothing yet
abbrev pub new_taker : TakerState
new_taker = record { taken = 0; seen = [] }

-- A take of at most this number. It gives the decisions that come next in the history, and counts
-- them. If it gives fewer than it might, these are all. What was seen of the history before is
-- still there. A take that was refused changes nothing.
abbrev pub DrawsNext : TakerState → ℕ → Result (List Decision) Refusal → TakerState → Type 0
DrawsNext old most answer new =
    MatchResult answer
    (λ batch. (new.taken ≡ old.taken + length batch) × ((length batch ≤ most)
    × (IsPrefix batch (drop old.taken new.seen) × (IsPrefix old.seen new.seen
    × (length batch < most → new.taken ≡ length new.seen)))))
    (λ e. ((e ≡ OutOfMemory) ⊎ (e ≡ OutOfStep)) × (new ≡ old))
