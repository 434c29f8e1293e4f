-- What comes to a core between the takes of a flusher, and what the core makes of that.
use Rattle.std.specs.Prelude.{◌≡◌, ◌++◌, ℕ, List, [], ◌∷◌, take, drop, flat_map, Result}
use Rattle.std.specs.Prelude.{MatchResult, Vec}
use Rattle.std.specs.Global.{Global}
use Rattle.std.specs.List.{FoldsTo}
use Rattle.lw_types.specs.declared.refusal.Refusal.{Refusal}
use Rattle.lw_types.specs.declared.refusal.Refusal.TheVariants.{OutOfMemory}
use Rattle.sessions.specs.declared.batch.TheConstants.Batch.{MOST}
use Rattle.sessions.specs.declared.decision.Decision.{Decision}
use Rattle.session_core.specs.Core.{CoreState, IsLawfulCore}
use Rattle.session_core.specs.Deciding.{after_taking}
use Rattle.session_core.specs.Events.{IsTurn}
use Rattle.session_core.specs.Calls.{work_of}
use Rattle.session_core.specs.declared.event.Event.{Event}
use Rattle.session_core.specs.declared.turn.Turn.{Turn}
use Rattle.flusher_lives.specs.declared.core_feed.CoreFeed.{CoreFeed}

-- an event came to a core at its moment
abbrev pub Comes : CoreState → ℕ × Event → CoreState → Type 0
Comes old at new = (turn : Turn) × IsTurn old at.0 (work_of at.1) turn new

-- what comes before the next take
abbrev pub coming_first : List (Vec (ℕ × Event) Global) → List (ℕ × Event)
coming_first [] = []
coming_first (coming ∷ rest) = coming.items

-- A core as a feed: what comes before this take came to it, one after another, and then it was
-- taken from.
pub record GivesAfterComing (old : CoreFeed) (most : ℕ) (answer : Result (List Decision) Refusal)
    (new : CoreFeed) : Type 0 where
  pub between : CoreState
  pub came : FoldsTo Comes old.core (coming_first old.coming.items) between
  pub rest : new.coming.items ≡ drop 1 old.coming.items
  pub lawful : IsLawfulCore between
  pub took : MatchResult answer
      (λ batch. (batch ≡ take most between.decisions.log)
      × (new.core ≡ record between { decisions = after_taking between.decisions most }))
      (λ e. (e ≡ OutOfMemory) × (new.core ≡ between))

-- A core was asked for a batch, and gave one or refused. Of what came to it before that, it had
-- made these decisions.
pub record DecidesAfterComing (old : CoreFeed) (decided : List Decision) (new : CoreFeed)
    : Type 0 where
  pub answer : Result (List Decision) Refusal
  pub asked : GivesAfterComing old MOST answer new
  pub logged : asked.between.decisions.log ≡ old.core.decisions.log ++ decided

-- it was asked repeatedly, and these are all the decisions that it made meanwhile, in order
abbrev pub DecidesMeanwhile : CoreFeed → List Decision → CoreFeed → Type 0
DecidesMeanwhile old decided new =
    (parts : List (List Decision)) × (FoldsTo DecidesAfterComing old parts new
    × (flat_map (λ part. part) parts ≡ decided))
