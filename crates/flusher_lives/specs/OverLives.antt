-- What a flusher does over several lives of its store.
use Rattle.std.specs.Prelude.{◌≡◌, ◌≢◌, ◌<◌, ◌+◌, ◌-◌, ◌^◌, ◌++◌, ℕ, List, [], ◌∷◌, map, length}
use Rattle.std.specs.Prelude.{Option, None, IfSome, MatchOption, Result, Ok, Err, IfErr}
use Rattle.std.specs.Prelude.{MatchResult, flat_map}
use Rattle.std.specs.List.{FoldsTo}
use Rattle.devices.specs.declared.effect.Effect.{Effect}
use Rattle.devices.specs.declared.mark.Mark.{Mark}
use Rattle.disk.specs.Crash.{IsCrashed}
use Rattle.disk.specs.Outlook.{IsArmed}
use Rattle.disk.specs.Outlook.Outlook.{AllSucceed, FailsAfter}
use Rattle.disk.specs.State.{EveryImage, IsPermitted, IsSettledAt, NothingOpen, State}
use Rattle.disk.specs.declared.disk.Disk.{Ghosts}
use Rattle.disk.specs.declared.sim.Image.{Image}
use Rattle.lw_types.specs.declared.refusal.Refusal.{Refusal}
use Rattle.lw_types.specs.declared.refusal.Refusal.TheVariants.{DeviceFailed}
use Rattle.sessions.specs.Marks.{AreDistinct, HasUsedUp, IsSubsequence, marks_of}
use Rattle.sessions.specs.Table.{TableState, effects_of}
use Rattle.store.specs.Image.{HoldsTable}
use Rattle.store.specs.Made.{IsOpenAnswer}
use Rattle.store.specs.State.{HoldsOn, disk_of}
use Rattle.store.specs.declared.store.Store.{Store}
use Rattle.flusher.specs.Chain.{FeedGives}
use Rattle.flusher.specs.Lived.{AreOnDisk}
use Rattle.flusher.specs.Lives.{LifeEvent, lives_of}
use Rattle.flusher.specs.Serving.{MakeChains}
use Rattle.flusher_lives.specs.declared.over_lives.FlusherLife.{FlusherLife}

-- what a crash with this image left of a disk
pub record IsLeftBy (image : Image) (old at : State) : Type 0 where
  pub crashed : IsCrashed image old at.content
  pub permitted : IsPermitted old at.content
  pub settled : IsSettledAt at.content at

-- The disk crashed to this image, or there was no crash; the call with this number was to fail, if
-- any; and the store was opened, or not. An opening is refused by the device exactly if a call
-- failed, and what it leaves holds what the disk held; any other refusal comes before anything is
-- written. After a call that failed no other is to fail; one that was to fail and was not yet made
-- is still to fail.
pub record IsReopened {D : Type 0} (disk : Ghosts D) (crash : Option Image) (failing : Option ℕ)
    (old : D) (result : Result (Store D disk) (D × Refusal)) : Type 0 where
  pub at : D
  pub left : MatchOption crash (disk.state at ≡ disk.state old)
      (λ image. IsLeftBy image (disk.state old) (disk.state at))
  pub permitted : IsPermitted (disk.state old) (disk.state at).content
  pub failures : disk.failures at ≡ disk.failures old
  pub armed : IfSome failing
      (λ n. disk.failures old + 1 < 2 ^ 64 → disk.outlook at ≡ FailsAfter (n - 1))
  pub unarmed : failing ≡ None → disk.outlook at ≡ disk.outlook old
  pub answer : IsOpenAnswer disk at (λ error. error.1) result
  pub device : IfErr result (λ error.
      (error.1 ≡ DeviceFailed → disk.failures error.0 ≡ disk.failures at + 1)
      × (error.1 ≢ DeviceFailed → disk.failures error.0 ≡ disk.failures at))
  pub still_unarmed : disk.outlook at ≡ AllSucceed
      → IfErr result (λ error. disk.outlook error.0 ≡ AllSucceed)
  pub still_armed : IsArmed (disk.outlook at) → MatchResult result
      (λ store. IsArmed (disk.outlook (disk_of store)))
      (λ error. (error.1 ≡ DeviceFailed → disk.outlook error.0 ≡ AllSucceed)
      × (error.1 ≢ DeviceFailed → IsArmed (disk.outlook error.0)))
  pub unwritten : IfErr result (λ error. error.1 ≢ DeviceFailed
      → NothingOpen (disk.state error.0)
      × ((disk.state error.0).content ≡ (disk.state at).content))
  pub kept : IfErr result (λ error. HoldsOn (disk.state old) (disk.state error.0))

-- the results of chains with these numbers of decisions, the last one of which may be refused
abbrev pub answers_up_to : List ℕ → Result (Unit {0}) Refusal → List (Result ℕ Refusal)
answers_up_to counts (Ok done) = map (λ count. Ok count) counts
answers_up_to counts (Err e) = map (λ count. Ok count) counts ++ Err e ∷ []

-- this number of chains was made, or fewer, after which one was refused
pub record MakeUpTo {D F C V : Type 0} (disk : Ghosts D) (gives : FeedGives F)
    (effects : V → List Effect) (call : C → V → C → Type 0) (most chains : ℕ)
    (old new : Store D disk) (old_feed new_feed : F) (old_out new_out : C)
    (result : Result (Unit {0}) Refusal) : Type 0 where
  pub counts : List ℕ
  pub many : MatchResult result (λ _. length counts ≡ chains) (λ _. length counts < chains)
  pub made : MakeChains disk gives effects call most old new old_feed new_feed old_out new_out
      (answers_up_to counts result)

-- One life: the store was opened and chains were made, or it wasn't opened.
pub record IsFlusherLife {D F C V : Type 0} (disk : Ghosts D) (gives : FeedGives F)
    (effects : V → List Effect) (call : C → V → C → Type 0) (life : FlusherLife)
    (old new : D) (old_feed new_feed : F) (old_out new_out : C) : Type 0 where
  pub opening : Result (Store D disk) (D × Refusal)
  pub reopened : IsReopened disk life.crash life.failing old opening
  pub goes_on : MatchResult opening
      (λ store. (last : Store D disk) × ((end : Result (Unit {0}) Refusal)
      × (MakeUpTo disk gives effects call life.most life.chains store last old_feed new_feed old_out
      new_out end × (new ≡ disk_of last))))
      (λ error. (new ≡ error.0) × ((new_feed ≡ old_feed) × (new_out ≡ old_out)))

-- Lives in order: each goes on with the disk, the feed and the closure that the one before it left.
abbrev pub AreFlusherLives : {D F C V : Type 0} (disk : Ghosts D) → FeedGives F → (V → List Effect)
    → (C → V → C → Type 0) → List FlusherLife → D → D → F → F → C → C → Type 0
AreFlusherLives disk gives effects call [] old new old_feed new_feed old_out new_out =
    (new ≡ old) × ((new_feed ≡ old_feed) × (new_out ≡ old_out))
AreFlusherLives {D} {F} {C} {V} disk gives effects call (life ∷ lives) old new old_feed new_feed
    old_out new_out =
    (between : D) × ((feed : F) × ((out : C)
    × (IsFlusherLife disk gives effects call life old between old_feed feed old_out out
    × AreFlusherLives disk gives effects call lives between new feed new_feed out new_out)))

-- What left over all lives that began with this table and number, if these marks had been used up:
-- it was given away in calls, in order. It is all effects of each batch that was released, and part
-- of the effects of the durable commands; and no mark was used up twice. Each image that a crash
-- may leave of this disk holds a table to which these lives lead and which covers all these marks.
pub record LeaveOnce {C V : Type 0} (effects : V → List Effect) (call : C → V → C → Type 0)
    (t : TableState) (number : ℕ) (marks : List Mark) (disk : State) (old new : C) : Type 0 where
  pub events : List LifeEvent
  pub calls : List V
  pub given : FoldsTo call old calls new
  pub left : flat_map effects calls ≡ (lives_of t events).left
  pub part : IsSubsequence (flat_map effects calls) (effects_of t (lives_of t events).durable)
  pub once : AreDistinct (marks ++ marks_of (flat_map effects calls))
  pub on_disk : AreOnDisk (lives_of t events) t number disk
  pub covered : EveryImage disk (λ image. (table : TableState) × ((seq : ℕ)
      × (HoldsTable table seq image
      × HasUsedUp table (marks ++ marks_of (flat_map effects calls)))))
