-- What a feed of stored batches gives.
use Rattle.std.specs.Prelude.{◌≡◌, List, [], ◌∷◌, Result, Ok, MatchResult}
use Rattle.lw_types.specs.declared.refusal.Refusal.{Refusal}
use Rattle.lw_types.specs.declared.refusal.Refusal.TheVariants.{OutOfMemory}
use Rattle.sessions.specs.declared.decision.Decision.{Decision}
use Rattle.flusher.specs.declared.feed.StoredBatches.{StoredBatches}

-- the batches that wait, the next one first
abbrev pub stored_in : StoredBatches → List (List Decision)
stored_in stored = stored.batches.items

-- the first batch is given and the others stay; if there is none, an empty one is given, or memory
-- ran out
abbrev pub GivesStored : List (List Decision) → Result (List Decision) Refusal
    → List (List Decision) → Type 0
GivesStored [] answer left =
    MatchResult answer (λ batch. batch ≡ []) (λ e. e ≡ OutOfMemory) × (left ≡ [])
GivesStored (batch ∷ batches) answer left = (answer ≡ Ok batch) × (left ≡ batches)
