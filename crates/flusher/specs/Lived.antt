-- Where lives have led a store.
use Rattle.std.specs.Prelude.{◌≡◌, ◌⊎◌, ◌+◌, ◌++◌, ℕ, List, [], length, flat_map, MatchBool}
use Rattle.std.specs.List.{FoldsTo}
use Rattle.devices.specs.declared.command.Command.{Command}
use Rattle.devices.specs.declared.effect.Effect.{Effect}
use Rattle.disk.specs.State.{EveryImage, State}
use Rattle.sessions.specs.Table.{TableState, fold_of}
use Rattle.store.specs.Image.{HoldsTable}
use Rattle.store.specs.State.{StoreState, IsSettled}
use Rattle.flusher.specs.Lives.{LifeEvent, Lives, lives_after, lives_after_all}

-- an image holds what a store has, or that with these commands
abbrev pub HoldsWithTorn : StoreState → List Command → List ℕ → Type 0
HoldsWithTorn s torn image =
    HoldsTable s.table s.seq image
    ⊎ HoldsTable (fold_of s.table torn) (s.seq + length torn) image

-- Lives that began with this table and number have led a store here: it has the fold of what is
-- durable, and each image that a crash may leave of its disk holds that, without what is torn or
-- with it. While no call of the disk has failed nothing is torn, and nothing is under way.
pub record HaveLed (lives : Lives) (t : TableState) (number : ℕ) (s : StoreState) : Type 0 where
  pub table : s.table ≡ fold_of t lives.durable
  pub seq : s.seq ≡ number + length lives.durable
  pub images : EveryImage s.log.disk (HoldsWithTorn s lives.torn)
  pub settled : MatchBool s.failed (Unit {0}) ((lives.torn ≡ []) × IsSettled s)

-- at most one event leads from those lives to these
abbrev pub GoOn : TableState → Lives → Lives → Type 0
GoOn t lives next = (next ≡ lives) ⊎ ((event : LifeEvent) × (next ≡ lives_after t lives event))

-- an image holds the fold of these commands, and its number
abbrev pub HoldsFold : TableState → ℕ → List Command → List ℕ → Type 0
HoldsFold t number commands image = HoldsTable (fold_of t commands) (number + length commands) image

-- Each image that a crash may leave of this disk holds the fold of what is durable in these lives,
-- without what is torn or with it.
abbrev pub AreOnDisk : Lives → TableState → ℕ → State → Type 0
AreOnDisk lives t number disk =
    EveryImage disk (λ image. HoldsFold t number lives.durable image
    ⊎ HoldsFold t number (lives.durable ++ lives.torn) image)

-- what may be known of lives that began with a table and a number
abbrev pub IsKnownOfLives : Type 1
IsKnownOfLives = Lives → TableState → ℕ → Type 0

-- Any lives that came here have come there, by one event after another. What left in addition was
-- given away in calls, in order, by which the closure that takes it came from `old` to `new`.
abbrev pub GoOnFrom : {C V : Type 0} → (V → List Effect) → (C → V → C → Type 0) → IsKnownOfLives
    → IsKnownOfLives → C → C → Type 0
GoOnFrom {C} {V} effects call here there old new =
    (t : TableState) (number : ℕ) (lives : Lives) → here lives t number
    → (events : List LifeEvent) × (there (lives_after_all t lives events) t number
    × ((calls : List V)
    × (((lives_after_all t lives events).left ≡ lives.left ++ flat_map effects calls)
    × FoldsTo call old calls new)))

-- the same of lives that led a store here, and have led it there
abbrev pub LeadOn : {C V : Type 0} → (V → List Effect) → (C → V → C → Type 0) → StoreState
    → StoreState → C → C → Type 0
LeadOn effects call here there old new =
    GoOnFrom effects call (λ lives t number. HaveLed lives t number here)
    (λ lives t number. HaveLed lives t number there) old new

-- The same if at most one event leads on: what left in addition was given away at once.
abbrev pub LeadsOn : {C V : Type 0} → (V → List Effect) → (C → V → C → Type 0) → StoreState
    → StoreState → C → C → Type 0
LeadsOn {C} {V} effects call here there old new =
    (t : TableState) (number : ℕ) (lives : Lives) → HaveLed lives t number here
    → (next : Lives) × (GoOn t lives next × (HaveLed next t number there
    × (((new ≡ old) × (next.left ≡ lives.left))
    ⊎ ((released : V) × ((next.left ≡ lives.left ++ effects released)
    × call old released new)))))
