-- What one cycle of a flusher does.
use Rattle.std.specs.Prelude.{◌≡◌, ◌≢◌, ◌⊎◌, ◌==◌, ◌+◌, ℕ, List, [], length, Result, Ok, Err}
use Rattle.std.specs.Prelude.{IfErr, IfOk, OnErr, MatchBool, MatchResult, if◌then◌else◌}
use Rattle.devices.specs.declared.effect.Effect.{Effect}
use Rattle.disk.specs.State.{EveryImage}
use Rattle.disk.specs.declared.disk.Disk.{Ghosts}
use Rattle.lw_types.specs.declared.refusal.Refusal.{Refusal}
use Rattle.lw_types.specs.declared.refusal.Refusal.TheVariants.{DeviceFailed}
use Rattle.sessions.specs.Decision.{commands_of}
use Rattle.sessions.specs.Table.{effects_of}
use Rattle.sessions.specs.declared.batch.TheConstants.Batch.{MOST}
use Rattle.sessions.specs.declared.decision.Decision.{Decision}
use Rattle.store.specs.Image.{HoldsTable}
use Rattle.store.specs.State.{StoreState, IsSettled, disk_of, store_state}
use Rattle.store.specs.declared.store.Store.{Store}
use Rattle.flusher.specs.Calls.{HaveSucceeded, IsUntouched, LastFailed, NoneFailed, calls_of_room}
use Rattle.flusher.specs.Chain.{FeedGives, MakesCalls}
use Rattle.flusher.specs.Cycle.{Commits, HoldsWithOrWithout, IsReady, IsUncommitted, IsUnready}

-- the batch that the feed gave is committed, and its effects left, once; an empty one leaves
-- nothing
abbrev pub CommitsOne : {F C V : Type 0} → FeedGives F → (V → List Effect) → (C → V → C → Type 0)
    → StoreState → StoreState → F → F → C → C → ℕ → Type 0
CommitsOne {F} {C} {V} gives effects call s s' old_feed new_feed old_out new_out count =
    (batch : List Decision) × (gives old_feed MOST (Ok batch) new_feed × ((count ≡ length batch)
    × (Commits s s' batch × MatchBool (count == 0)
    (new_out ≡ old_out)
    ((released : V) × ((effects released ≡ effects_of s.table (commands_of batch))
    × call old_out released new_out)))))

-- why it is refused: no batch was asked for, or the feed gave none, or it wasn't committed
abbrev pub IsCycleRefusal : {F : Type 0} → FeedGives F → Type 0 → Type 0 → StoreState → F → F
    → Refusal → Type 0
IsCycleRefusal gives untouched failure s old_feed new_feed e =
    ((new_feed ≡ old_feed) × IsUnready s untouched failure e)
    ⊎ (IsReady s × (gives old_feed MOST (Err e) new_feed
    ⊎ ((batch : List Decision) × (gives old_feed MOST (Ok batch) new_feed × ((batch ≢ [])
    × IsUncommitted s batch failure e)))))

-- each image that a crash may leave holds what the store had, or also the refused batch if a call
-- failed
abbrev pub LeavesOneInDoubt : {F : Type 0} → FeedGives F → StoreState → StoreState → F → F → Refusal
    → Type 0
LeavesOneInDoubt gives s s' old_feed new_feed e =
    EveryImage s'.log.disk (HoldsTable s.table s.seq)
    ⊎ ((batch : List Decision) × (gives old_feed MOST (Ok batch) new_feed
    × ((e ≡ DeviceFailed) × EveryImage s'.log.disk (HoldsWithOrWithout s batch))))

pub record IsCycle {D F C V : Type 0} (disk : Ghosts D) (gives : FeedGives F)
    (effects : V → List Effect) (call : C → V → C → Type 0) (old new : Store D disk)
    (old_feed new_feed : F) (old_out new_out : C) (result : Result ℕ Refusal) : Type 0 where
  pub done : IfOk result (CommitsOne gives effects call (store_state disk.state old)
      (store_state disk.state new) old_feed new_feed old_out new_out)
  -- if it is refused nothing left, and the store has what it had
  pub held_back : OnErr result (new_out ≡ old_out)
  pub table : OnErr result
      ((store_state disk.state new).table ≡ (store_state disk.state old).table)
  pub seq : OnErr result ((store_state disk.state new).seq ≡ (store_state disk.state old).seq)
  pub refused : IfErr result (IsCycleRefusal gives (IsUntouched disk.state old new)
      (LastFailed disk.failures disk.outlook old new) (store_state disk.state old) old_feed
      new_feed)
  pub calls : MatchResult result
      (λ _. NoneFailed disk.failures disk.outlook old new)
      (λ e. NoneFailed disk.failures disk.outlook old new
      ⊎ ((e ≡ DeviceFailed) × LastFailed disk.failures disk.outlook old new))
  -- a batch takes four calls, after those that make room; if it is refused, they are those of a
  -- chain that committed none
  pub made : MatchResult result
      (λ count. HaveSucceeded
      (calls_of_room (store_state disk.state old) + (if count == 0 then 0 else 4))
      (disk.outlook (disk_of old)) (disk.outlook (disk_of new)))
      (λ e. MakesCalls (disk.outlook (disk_of old)) (disk.outlook (disk_of new))
      (calls_of_room (store_state disk.state old)) [] (Err e))
  -- if no call of the disk failed, nothing is under way
  pub settled : disk.honest → IsSettled (store_state disk.state old)
      → NoneFailed disk.failures disk.outlook old new → IsSettled (store_state disk.state new)
  pub images : disk.honest → IsSettled (store_state disk.state old) → MatchResult result
      (λ _. EveryImage (disk.state (disk_of new))
      (HoldsTable (store_state disk.state new).table (store_state disk.state new).seq))
      (LeavesOneInDoubt gives (store_state disk.state old) (store_state disk.state new) old_feed
      new_feed)
