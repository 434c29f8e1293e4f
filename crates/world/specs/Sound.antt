-- What is under way is the store's, and what it releases will fit.
use Rattle.std.specs.Prelude.{◌≡◌, ℕ, ◌*◌, ◌≤◌, ◌+◌, List, [], ◌∷◌, length, vec_capacity}
use Rattle.disk.specs.State.{State}
use Rattle.flusher.specs.declared.room.TheConstants.{MOST_EFFECTS}
use Rattle.sessions.specs.declared.decision.Decision.{Decision}
use Rattle.store.specs.Flights.{Flight}
use Rattle.store.specs.State.{store_state, disk_of}
use Rattle.world.specs.Commits.{IsBehind, MayGoOn, flights_begun}
use Rattle.world.specs.declared.commit.Pipeline.{Pipeline}
use Rattle.world.specs.declared.life.Life.{Life}
use Rattle.world.specs.declared.condition.Condition.{Condition}
use Rattle.world.specs.declared.condition.Condition.TheVariants.{Open, Closed, Crashing}
use Rattle.world.specs.declared.world.World.{World}

-- what is under way is the store's, and a batch is ahead of only one
abbrev pub IsSoundLife : {D : Type 0} {g : _} → (D → State) → Life D g → Type 0
IsSoundLife state life =
    MayGoOn (store_state state life.store) life.commits.last
    × IsBehind life.commits.ahead life.commits.last

-- there is room among the released effects for those of each batch that is begun; the numbers given
-- are those released and those for which there is room
abbrev pub HasRoomForEach : List (Flight Decision) → ℕ → ℕ → Type 0
HasRoomForEach [] there fit = Unit {0}
HasRoomForEach (flight ∷ flights) there fit = there + MOST_EFFECTS * length (flight ∷ flights) ≤ fit

abbrev pub HasRoom : Pipeline → ℕ → ℕ → Type 0
HasRoom commits there fit = HasRoomForEach (flights_begun commits) there fit

abbrev pub IsSoundCondition : {D : Type 0} {g : _} → (D → State) → Condition D g → ℕ → ℕ → Type 0
IsSoundCondition state (Open life) there fit =
    IsSoundLife state life × HasRoom life.commits there fit
IsSoundCondition state (Closed disk) there fit = Unit {0}
IsSoundCondition state Crashing there fit = ⊥

abbrev pub IsSoundWorld : {D : Type 0} {g : _} → (D → State) → World D g → Type 0
IsSoundWorld state world =
    IsSoundCondition state world.condition (length world.released.items)
    (vec_capacity world.released)

-- not within a crash
abbrev pub IsSomewhere : {D : Type 0} {g : _} → Condition D g → Type 0
IsSomewhere (Open life) = Unit {0}
IsSomewhere (Closed disk) = Unit {0}
IsSomewhere Crashing = ⊥

abbrev pub HasDisk : {D : Type 0} {g : _} → Condition D g → D → Type 0
HasDisk (Open life) disk = disk ≡ disk_of life.store
HasDisk (Closed d) disk = disk ≡ d
HasDisk Crashing disk = ⊥
