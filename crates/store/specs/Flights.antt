-- Batches under way: how far each is, what a device call does to them, and what a crash may leave.
use Rattle.std.specs.Prelude.{◌≡◌, ◌⊎◌, List, [], ◌∷◌, ◌++◌}

-- how far the commit of a batch is
pub data Stage : Type 0 where
  -- nothing is written
  Begun : Stage
  -- its body is written
  Written : Stage
  -- and it is synced
  BodySynced : Stage
  -- its gate is open
  GateWritten : Stage
  -- and it is synced: every crash leaves the batch
  Durable : Stage
  -- a device call failed before the gate was touched
  Stopped : Stage
  -- a device call on the gate failed
  Unsure : Stage

-- a batch under way: what is in it, and how far its commit is
pub record Flight (X : Type 0) : Type 0 where
  pub batch : List X
  pub stage : Stage

-- all that is in these batches
abbrev pub in_flight : {X : Type 0} → List (Flight X) → List X
in_flight [] = []
in_flight (flight ∷ flights) = flight.batch ++ in_flight flights

-- what a device call of the batch that succeeded makes of its stage
abbrev pub next_stage : Stage → Stage
next_stage Begun = Written
next_stage Written = BodySynced
next_stage BodySynced = GateWritten
next_stage GateWritten = Durable
next_stage stage = stage

-- and what one that failed makes of it
abbrev pub failed_stage : Stage → Stage
failed_stage Begun = Stopped
failed_stage Written = Stopped
failed_stage BodySynced = Unsure
failed_stage GateWritten = Unsure
failed_stage stage = stage

-- a gate waits while the body of the batch after it is written, and both are synced by one call
abbrev pub next_stage_before : Stage → Stage → Stage
next_stage_before Begun stage = stage
next_stage_before behind stage = next_stage stage

-- one device call of these batches, the oldest first, succeeded
abbrev pub all_succeeded : {X : Type 0} → List (Flight X) → List (Flight X)
all_succeeded [] = []
all_succeeded (flight ∷ []) = record flight { stage = next_stage flight.stage } ∷ []
all_succeeded (first ∷ second ∷ rest) =
    record first { stage = next_stage_before second.stage first.stage }
    ∷ all_succeeded (second ∷ rest)

-- one device call of these batches failed
abbrev pub all_failed : {X : Type 0} → List (Flight X) → List (Flight X)
all_failed [] = []
all_failed (flight ∷ flights) =
    record flight { stage = failed_stage flight.stage } ∷ all_failed flights

-- what is durable: what is settled, and the durable batches after it
abbrev pub with_durable : {X : Type 0} → Stage → List X → List X → List X
with_durable Durable settled more = more
with_durable stage settled more = settled

abbrev pub durable_in : {X : Type 0} → List X → List (Flight X) → List X
durable_in settled [] = settled
durable_in settled (flight ∷ flights) =
    with_durable flight.stage settled (durable_in (settled ++ flight.batch) flights)

-- what a crash may do to a batch, by its stage: the batch stays, it may stay, or it is gone
abbrev pub ByStage : Stage → Type 0 → Type 0 → Type 0 → Type 0
ByStage Durable there doubtful gone = there
ByStage GateWritten there doubtful gone = doubtful
ByStage Unsure there doubtful gone = doubtful
ByStage stage there doubtful gone = gone

-- What a crash may leave if this is settled and these batches are under way, the oldest first. A
-- durable batch is left, and the same holds for those after it. A batch whose gate may be open is
-- left or not, and none after it is. Any other batch isn't left, and none after it is.
abbrev pub MayLeave : {X : Type 0} → List X → List (Flight X) → List X → Type 0
MayLeave settled [] kept = kept ≡ settled
MayLeave settled (flight ∷ flights) kept =
    ByStage flight.stage
    (MayLeave (settled ++ flight.batch) flights kept)
    ((kept ≡ settled) ⊎ (kept ≡ settled ++ flight.batch))
    (kept ≡ settled)
