-- What a chain of commits does, and why it ends.
use Rattle.std.specs.Prelude.{◌≡◌, ◌≢◌, ◌⊎◌, ◌<◌, ◌≤◌, ◌+◌, ◌*◌, ℕ, List, [], ◌∷◌, length}
use Rattle.std.specs.Prelude.{flat_map}
use Rattle.std.specs.List.{FoldsTo}
use Rattle.std.specs.Prelude.{Result, Ok, Err, MatchResult, OnErr}
use Rattle.devices.specs.declared.effect.Effect.{Effect}
use Rattle.disk.specs.Outlook.{Outlook}
use Rattle.disk.specs.State.{EveryImage}
use Rattle.disk.specs.declared.disk.Disk.{Ghosts}
use Rattle.lw_types.specs.declared.refusal.Refusal.{Refusal}
use Rattle.lw_types.specs.declared.refusal.Refusal.TheVariants.{DeviceFailed, OutOfMemory}
use Rattle.sessions.specs.Decision.{commands_of}
use Rattle.sessions.specs.Table.{TableState, effects_of, fold_of}
use Rattle.sessions.specs.declared.batch.TheConstants.Batch.{MOST}
use Rattle.sessions.specs.declared.decision.Decision.{Decision}
use Rattle.store.specs.Pairing.{IsBegunBehind, IsRoomyBehind, MayFollowBehind, table_behind}
use Rattle.store.specs.Phases.{begun_sequel, gate_written_sequel}
use Rattle.store.specs.State.{StoreState, IsRoomy, IsSettled, disk_of, store_state}
use Rattle.store.specs.declared.phases.Begun.{Begun}
use Rattle.store.specs.declared.phases.GateWritten.{GateWritten}
use Rattle.store.specs.declared.store.Store.{Store}
use Rattle.flusher.specs.Calls.{HasFailedWithin, HaveSucceeded, IsUntouched, LastFailed}
use Rattle.flusher.specs.Calls.{NoneFailed, calls_of_room}
use Rattle.flusher.specs.Cycle.{Commits, HoldsWithOrWithout, IsReady, IsUncommitted, IsUnready}

-- a feed before a call, the greatest number of decisions that was asked for, its result, and the
-- feed after the call
abbrev pub FeedGives : Type 0 → Type 1
FeedGives F = F → ℕ → Result (List Decision) Refusal → F → Type 0

-- the decisions of several batches, in order
abbrev pub batched_decisions : List (List Decision) → List Decision
batched_decisions batches = flat_map (λ batch. batch) batches

-- a feed that is asked repeatedly for the largest batch gives these, none of which is empty
abbrev pub GivesAll : {F : Type 0} → FeedGives F → F → List (List Decision) → F → Type 0
GivesAll gives old batches new =
    FoldsTo (λ feed batch next. (batch ≢ []) × gives feed MOST (Ok batch) next) old batches new

-- the effects of these batches leave, starting from this table: those of each batch at once, one
-- batch after another
abbrev pub LeaveInOrder : {C V : Type 0} → (V → List Effect) → (C → V → C → Type 0) → TableState
    → List (List Decision) → C → C → Type 0
LeaveInOrder effects call t [] old new = new ≡ old
LeaveInOrder {C} {V} effects call t (batch ∷ batches) old new =
    (released : V) × ((next : C) × ((effects released ≡ effects_of t (commands_of batch))
    × (call old released next
    × LeaveInOrder effects call (fold_of t (commands_of batch)) batches next new)))

-- the store that has committed these batches, if no call of its disk failed
abbrev pub store_behind : StoreState → List (List Decision) → StoreState
store_behind s batches = record s {
  table = fold_of s.table (commands_of (batched_decisions batches));
  seq = s.seq + length (batched_decisions batches);
}

-- Why a chain ends after these batches without a refusal: they are the most that it may have, or
-- the journal has no room for one more, or the feed gave an empty one.
abbrev pub HasEnded : {F : Type 0} → FeedGives F → ℕ → StoreState → List (List Decision) → F → F
    → Type 0
HasEnded gives most new batches old_feed new_feed =
    ((new_feed ≡ old_feed) × ((length batches ≡ most) ⊎ ((batches ≢ []) × ¬ (IsRoomy new))))
    ⊎ ((length batches < most) × gives old_feed MOST (Ok []) new_feed)

-- Why a chain is refused after these batches.
pub data HasBroken {F : Type 0} (gives : FeedGives F) (most : ℕ) (untouched failure : Type 0)
    (s : StoreState) (batches : List (List Decision)) (torn : List Decision)
    (old_feed new_feed : F) (e : Refusal) : Type 0 where
  -- no batch was asked for: the store wasn't ready for a first one
  WasUnready : new_feed ≡ old_feed → torn ≡ [] → batches ≡ [] → IsUnready s untouched failure e
      → HasBroken gives most untouched failure s batches torn old_feed new_feed e
  -- no further batch was asked for: memory ran out for its effects
  HadNoRoom : new_feed ≡ old_feed → torn ≡ [] → batches ≢ [] → e ≡ OutOfMemory
      → HasBroken gives most untouched failure s batches torn old_feed new_feed e
  -- the feed refused one
  FeedRefused : IsReady s → torn ≡ [] → gives old_feed MOST (Err e) new_feed
      → HasBroken gives most untouched failure s batches torn old_feed new_feed e
  -- it gave this one, which wasn't committed; if a device call failed, the feed may have been asked
  -- for the batch after that, which is given up too
  WasUncommitted : IsReady s → (next : F) → GivesAll gives old_feed (torn ∷ []) next
      → IsUncommitted (store_behind s batches) torn failure e
      → (new_feed ≡ next) ⊎ ((e ≡ DeviceFailed) × ((length batches + 1 < most)
      × ((answer : Result (List Decision) Refusal) × gives next MOST answer new_feed)))
      → HasBroken gives most untouched failure s batches torn old_feed new_feed e

-- how many calls of the disk commit these batches: the gate of each shares its sync with the body
-- of the one after it
abbrev pub calls_of_batches : List (List Decision) → ℕ
calls_of_batches [] = 0
calls_of_batches (batch ∷ batches) = 3 * length (batch ∷ batches) + 1

-- The calls of a chain that commits these batches, after those that make room. If it is refused and
-- no call failed, they are those of these batches; or, if no batch was committed, perhaps no call
-- at all, not even those that make room. If a call failed, it is one of those that make room; or at
-- least the calls of these batches succeeded, and at most those of one more batch.
abbrev pub MakesCalls : Outlook → Outlook → ℕ → List (List Decision) → Result ℕ Refusal → Type 0
MakesCalls old new room batches result =
    MatchResult result
    (λ _. HaveSucceeded (room + calls_of_batches batches) old new)
    (λ _. HaveSucceeded (room + calls_of_batches batches) old new
    ⊎ (((batches ≡ []) × ((new ≡ old) ⊎ HasFailedWithin 0 room old new))
    ⊎ HasFailedWithin (room + calls_of_batches batches) (room + 3 * length batches + 5) old new))

-- A chain of at most this number of commits. These batches came from the feed, were committed, and
-- their effects left. The one that was given up after them is the torn one, which is empty if there
-- is none. Each image that a crash may leave holds what the store has, or that with this batch.
pub record IsChain {D F C V : Type 0} (disk : Ghosts D) (gives : FeedGives F)
    (effects : V → List Effect) (call : C → V → C → Type 0) (most : ℕ)
    (old new : Store D disk) (old_feed new_feed : F)
    (old_out new_out : C) (result : Result ℕ Refusal) : Type 0 where
  pub batches : List (List Decision)
  pub torn : List Decision
  pub feed : F
  pub given : GivesAll gives old_feed batches feed
  pub few : length batches ≤ most
  pub commits : Commits (store_state disk.state old) (store_state disk.state new)
      (batched_decisions batches)
  pub leave : LeaveInOrder effects call (store_state disk.state old).table batches old_out new_out
  pub ends : MatchResult result
      (λ count. (count ≡ length (batched_decisions batches)) × ((torn ≡ [])
      × HasEnded gives most (store_state disk.state new) batches feed new_feed))
      (λ e. (length batches < most)
      × HasBroken gives most (IsUntouched disk.state old new)
      (LastFailed disk.failures disk.outlook old new)
      (store_state disk.state old) batches torn feed new_feed e)
  -- after a batch it is refused only if the journal has room for another, or a call failed
  pub roomy : OnErr result (batches ≢ [] → NoneFailed disk.failures disk.outlook old new
      → IsRoomy (store_state disk.state new))
  pub calls : MatchResult result
      (λ _. NoneFailed disk.failures disk.outlook old new)
      (λ e. NoneFailed disk.failures disk.outlook old new
      ⊎ ((e ≡ DeviceFailed) × LastFailed disk.failures disk.outlook old new))
  pub made : MakesCalls (disk.outlook (disk_of old)) (disk.outlook (disk_of new))
      (calls_of_room (store_state disk.state old)) batches result
  pub settled : disk.honest → IsSettled (store_state disk.state old)
      → NoneFailed disk.failures disk.outlook old new → IsSettled (store_state disk.state new)
  pub images : disk.honest → IsSettled (store_state disk.state old)
      → EveryImage (disk.state (disk_of new))
      (HoldsWithOrWithout (store_state disk.state new) torn)

-- ---- what the private function that commits the batches after a first one does

-- it is a chain in which a batch was given
abbrev pub IsChainOfSome : {D F C V : Type 0} (disk : Ghosts D) → FeedGives F
    → (V → List Effect) → (C → V → C → Type 0) → ℕ → Store D disk → Store D disk → F → F
    → C → C → Result ℕ Refusal → Type 0
IsChainOfSome disk gives effects call most old new old_feed new_feed old_out new_out result =
    (chain : IsChain disk gives effects call most old new old_feed new_feed old_out new_out result)
    × (chain.batches ≡ [] → chain.torn ≢ [])

-- ---- what the private function that gets the batch after the one under way returns

-- the store's table and number after the batch under way
abbrev pub store_behind_opened : StoreState → GateWritten → StoreState
store_behind_opened s opened = record s {
  table = table_behind s opened;
  seq = (gate_written_sequel opened).seq;
}

-- no batch follows: none may, or the journal has no room after the one under way, or the feed gave
-- an empty one
abbrev pub NoneFollows : {F : Type 0} → FeedGives F → ℕ → StoreState → GateWritten → F → F → Type 0
NoneFollows gives more s opened old_feed new_feed =
    ((new_feed ≡ old_feed) × ((more ≡ 0) ⊎ ¬ (IsRoomyBehind s opened)))
    ⊎ ((more ≢ 0) × gives old_feed MOST (Ok []) new_feed)

-- the feed gave this one, which may follow
pub record FollowsOpened {F : Type 0} (gives : FeedGives F) (more : ℕ) (s : StoreState)
    (opened : GateWritten)
    (old_feed new_feed : F) (begun : Begun) : Type 0 where
  pub more_may : more ≢ 0
  pub given : GivesAll gives old_feed ((begun_sequel begun).decisions ∷ []) new_feed
  pub may : MayFollowBehind s opened begun
  pub on_disk : IsBegunBehind s opened begun

-- one was refused, and the journal has room after the one under way: memory ran out for its
-- effects, or the feed refused it, or it was given and not begun
abbrev pub IsFollowRefusal : {F : Type 0} → FeedGives F → ℕ → StoreState → GateWritten → F → F
    → Refusal → Type 0
IsFollowRefusal gives more s opened old_feed new_feed e =
    (more ≢ 0)
    × (IsRoomyBehind s opened
    × (((new_feed ≡ old_feed) × (e ≡ OutOfMemory))
    ⊎ (gives old_feed MOST (Err e) new_feed
    ⊎ ((batch : List Decision) × (GivesAll gives old_feed (batch ∷ []) new_feed
    × IsUncommitted (store_behind_opened s opened) batch ⊥ e)))))
