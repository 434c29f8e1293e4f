-- What one cycle of a flusher does, and why it is refused.
use Rattle.std.specs.Prelude.{◌≡◌, ◌⊎◌, ◌<◌, ◌≤◌, ◌+◌, ℕ, false, List, length, MatchBool}
use Rattle.lw_types.specs.declared.refusal.Refusal.{Refusal}
use Rattle.lw_types.specs.declared.refusal.Refusal.TheVariants.{Damaged, DeviceFailed, Failed}
use Rattle.lw_types.specs.declared.refusal.Refusal.TheVariants.{OutOfMemory, OutOfStep}
use Rattle.sessions.specs.Decision.{ContinueAll, IsLegalContinuation, commands_of}
use Rattle.sessions.specs.Table.{fold_of}
use Rattle.sessions.specs.declared.decision.Decision.{Decision}
use Rattle.store.specs.declared.areas.TheConstants.{LAST_GENERATION}
use Rattle.store.specs.Image.{HoldsTable}
use Rattle.store.specs.State.{StoreState, IsRoomy}

-- a store committed these decisions, which may be none: they continue what it had, and it has the
-- fold of their commands
pub record Commits (old new : StoreState) (ds : List Decision) : Type 0 where
  pub continues : ContinueAll old.table old.seq ds
  pub table : new.table ≡ fold_of old.table (commands_of ds)
  pub seq : new.seq ≡ old.seq + length ds

-- an image holds what the store had, or that with these decisions
abbrev pub HoldsWithOrWithout : StoreState → List Decision → List ℕ → Type 0
HoldsWithOrWithout s ds image =
    HoldsTable s.table s.seq image
    ⊎ HoldsTable (fold_of s.table (commands_of ds)) (s.seq + length ds) image

-- why a store wrote no checkpoint; `failure` is what is known if a call of the disk failed
abbrev pub IsUnchecked : StoreState → Type 0 → Refusal → Type 0
IsUnchecked s failure e =
    MatchBool s.failed
    (e ≡ Failed)
    (((e ≡ Damaged) × (LAST_GENERATION ≤ s.log.generation))
    ⊎ ((s.log.generation < LAST_GENERATION) × ((e ≡ OutOfMemory) ⊎ ((e ≡ DeviceFailed) × failure))))

-- why a batch wasn't asked for: no memory for its effects, or no room in the journal and no
-- checkpoint; unless a call of the disk failed, the store is untouched
abbrev pub IsUnready : StoreState → Type 0 → Type 0 → Refusal → Type 0
IsUnready s untouched failure e =
    (untouched ⊎ (e ≡ DeviceFailed))
    × ((e ≡ OutOfMemory) ⊎ ((¬ (IsRoomy s)) × IsUnchecked s failure e))

-- a checkpoint was written exactly if the journal had no room for the largest batch: it is of the
-- next generation
abbrev pub ChecksWhereFull : StoreState → StoreState → Type 0
ChecksWhereFull old new =
    (IsRoomy old → new.log.generation ≡ old.log.generation)
    × ((¬ (IsRoomy old)) → new.log.generation ≡ old.log.generation + 1)

-- the journal has room for the largest batch, or a checkpoint may make that room
abbrev pub IsReady : StoreState → Type 0
IsReady s = IsRoomy s ⊎ ((s.failed ≡ false) × (s.log.generation < LAST_GENERATION))

-- why a batch wasn't committed
abbrev pub IsUncommitted : StoreState → List Decision → Type 0 → Refusal → Type 0
IsUncommitted s ds failure e =
    MatchBool s.failed
    (e ≡ Failed)
    (((e ≡ OutOfStep) × (¬ (IsLegalContinuation s.table s.seq ds)))
    ⊎ (IsLegalContinuation s.table s.seq ds × ((e ≡ OutOfMemory) ⊎ ((e ≡ DeviceFailed) × failure))))
