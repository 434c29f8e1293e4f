-- Lives of a store, each with a core of its own.
use Rattle.std.specs.Prelude.{◌≡◌, ◌⊎◌, ℕ, List, Result, Err, MatchResult, Vec}
use Rattle.std.specs.Global.{Global}
use Rattle.std.specs.List.{FoldsTo}
use Rattle.devices.specs.declared.effect.Effect.{Effect}
use Rattle.disk.specs.declared.disk.Disk.{Ghosts}
use Rattle.lw_types.specs.declared.refusal.Refusal.{Refusal}
use Rattle.lw_types.specs.declared.refusal.Refusal.TheVariants.{OutOfMemory}
use Rattle.session_core.specs.Core.{new_core}
use Rattle.store.specs.State.{disk_of}
use Rattle.store.specs.declared.store.Store.{Store}
use Rattle.flusher_lives.specs.Coming.{GivesAfterComing}
use Rattle.flusher_lives.specs.OverLives.{IsReopened, MakeUpTo}
use Rattle.session_core.specs.declared.event.Event.{Event}
use Rattle.flusher_lives.specs.declared.core_feed.CoreFeed.{CoreFeed}
use Rattle.flusher_lives.specs.declared.core_lives.CoreLife.{CoreLife}

-- A core began with what the store had, and this number of chains was made of what came to it, or
-- fewer, after which one was refused; or there was no memory for a core.
abbrev pub DecidesUpTo : {D C V : Type 0} (disk : Ghosts D) → (V → List Effect)
    → (C → V → C → Type 0) → List (Vec (ℕ × Event) Global) → ℕ → ℕ
    → Store D disk → Store D disk → C → C → Result (Unit {0}) Refusal → Type 0
DecidesUpTo {D} {C} {V} disk effects call coming most chains old new old_out new_out result =
    ((first : CoreFeed) × ((last : CoreFeed) × ((first.core ≡ new_core old.table old.seq)
    × ((first.coming.items ≡ coming)
    × MakeUpTo disk GivesAfterComing effects call most chains old new first last old_out new_out
    result))))
    ⊎ ((result ≡ Err OutOfMemory) × ((new ≡ old) × (new_out ≡ old_out)))

-- One life: the store was opened, and what came to a core was committed; or it wasn't opened.
pub record IsCoreLife {D C V : Type 0} (disk : Ghosts D) (effects : V → List Effect)
    (call : C → V → C → Type 0) (life : CoreLife) (old new : D) (old_out new_out : C)
    : Type 0 where
  pub opening : Result (Store D disk) (D × Refusal)
  pub reopened : IsReopened disk life.crash life.failing old opening
  pub goes_on : MatchResult opening
      (λ store. (last : Store D disk) × ((end : Result (Unit {0}) Refusal)
      × (DecidesUpTo disk effects call life.coming.items life.most life.chains store last old_out
      new_out end × (new ≡ disk_of last))))
      (λ error. (new ≡ error.0) × (new_out ≡ old_out))

-- Lives in order: each goes on with the disk and the closure that the one before it left.
abbrev pub AreCoreLives : {D C V : Type 0} (disk : Ghosts D) → (V → List Effect)
    → (C → V → C → Type 0) → List CoreLife → D → D → C → C → Type 0
AreCoreLives {D} {C} disk effects call lives old new old_out new_out =
    FoldsTo (λ (before : D × C) (life : CoreLife) (after : D × C).
    IsCoreLife disk effects call life before.0 after.0 before.1 after.1)
    (old, old_out) lives (new, new_out)
