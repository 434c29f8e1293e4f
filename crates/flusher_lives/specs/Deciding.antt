-- A core from which a flusher takes, while more is decided.
use Rattle.std.specs.Prelude.{◌≡◌, ◌+◌, ◌++◌, ℕ, List, [], length, flat_map, Vec}
use Rattle.std.specs.Global.{Global}
use Rattle.std.specs.List.{FoldsTo}
use Rattle.devices.specs.declared.command.Command.{Command}
use Rattle.devices.specs.declared.effect.Effect.{Effect}
use Rattle.devices.specs.declared.mark.Mark.{Mark}
use Rattle.sessions.specs.Decision.{ContinueAll, commands_of}
use Rattle.sessions.specs.Marks.{HasUsedUp, IsSubsequence, marks_of}
use Rattle.sessions.specs.Table.{TableState, effects_of, fold_of}
use Rattle.sessions.specs.declared.decision.Decision.{Decision}
use Rattle.session_core.specs.Core.{new_core}
use Rattle.session_core.specs.State.{DecisionsState}
use Rattle.disk.specs.State.{EveryImage, State}
use Rattle.store.specs.Image.{HoldsTable}
use Rattle.store.specs.State.{StoreState, IsSettled}
use Rattle.flusher.specs.Cycle.{HoldsWithOrWithout}
use Rattle.flusher_lives.specs.Coming.{DecidesMeanwhile}
use Rattle.session_core.specs.declared.event.Event.{Event}
use Rattle.flusher_lives.specs.declared.core_feed.CoreFeed.{CoreFeed}
use Rattle.flusher_lives.specs.declared.core_lives.CoreLife.{CoreLife}

-- what is taken next continues from what the store has
pub record IsInStep (s : StoreState) (core : DecisionsState) : Type 0 where
  pub table : core.base ≡ s.table
  pub seq : core.opening + core.taken ≡ s.seq

-- What a store committed of a core's decisions: the first of those that waited and those that the
-- core made meanwhile, one after another. Their effects, complete and in order, were given away in
-- calls. Each image that a crash may leave holds what the store then has, or that with the torn
-- ones, which are the next.
pub record CommitsDecided {C V : Type 0} (honest : Type 0) (effects : V → List Effect)
    (call : C → V → C → Type 0) (old new : StoreState) (old_feed new_feed : CoreFeed)
    (old_out new_out : C) : Type 0 where
  pub decided : List Decision
  pub committed : List Decision
  pub torn : List Decision
  pub waiting : List Decision
  pub meanwhile : DecidesMeanwhile old_feed decided new_feed
  pub beginning : committed ++ (torn ++ waiting) ≡ old_feed.core.decisions.log ++ decided
  pub continues : let core = old_feed.core.decisions in
      ContinueAll core.base (core.opening + core.taken) (core.log ++ decided)
  pub table : new.table ≡ fold_of old.table (commands_of committed)
  pub seq : new.seq ≡ old.seq + length committed
  pub calls : List V
  pub left : flat_map effects calls ≡ effects_of old.table (commands_of committed)
  pub given : FoldsTo call old_out calls new_out
  pub images : honest → IsSettled old → EveryImage new.log.disk (HoldsWithOrWithout new torn)

-- and nothing is torn: what the core still has waits, and continues from what the store has
abbrev pub StaysInStep : {C V : Type 0} → Type 0 → (V → List Effect) → (C → V → C → Type 0)
    → StoreState → StoreState → CoreFeed → CoreFeed → C → C → Type 0
StaysInStep honest effects call old new old_feed new_feed old_out new_out =
    (commits : CommitsDecided honest effects call old new old_feed new_feed old_out new_out)
    × ((commits.torn ≡ []) × ((commits.waiting ≡ new_feed.core.decisions.log)
    × (IsInStep new new_feed.core.decisions × (honest → IsSettled old → IsSettled new))))

-- the same of a core that began with what the store had, and to which this came
abbrev pub CommitsInLife : {C V : Type 0} → Type 0 → (V → List Effect) → (C → V → C → Type 0)
    → List (Vec (ℕ × Event) Global) → StoreState → StoreState → C → C → Type 0
CommitsInLife honest effects call coming old new old_out new_out =
    (first : CoreFeed) × ((last : CoreFeed) × ((first.core ≡ new_core old.table old.seq)
    × ((first.coming.items ≡ coming)
    × CommitsDecided honest effects call old new first last old_out new_out)))

-- ---- lives

-- a table, and the number of its last decision
pub record NumberedTable : Type 0 where
  pub table : TableState
  pub seq : ℕ

-- each image that a crash may leave of this disk holds a table of which this is true
abbrev pub EachHolds : State → (NumberedTable → Type 0) → Type 0
EachHolds disk P =
    EveryImage disk (λ image. (found : NumberedTable)
    × (HoldsTable found.table found.seq image × P found))

-- A core that began with this table and number, and to which this came, made these decisions.
pub record DecidesInLife (begun : NumberedTable) (coming : List (Vec (ℕ × Event) Global))
    (decided : List Decision) : Type 0 where
  pub first : CoreFeed
  pub last : CoreFeed
  pub core : first.core ≡ new_core begun.table begun.seq
  pub comes : first.coming.items ≡ coming
  pub meanwhile : DecidesMeanwhile first decided last

-- A life of a store, of which a core decides what comes to it: what is found after the life is what
-- it began with and the first of the core's decisions. Among these are all that were committed,
-- whose effects, complete and in order, were given away in calls.
pub record KeepsDecided {C V : Type 0} (effects : V → List Effect) (call : C → V → C → Type 0)
    (coming : List (Vec (ℕ × Event) Global)) (old new : NumberedTable) (old_out new_out : C)
    : Type 0 where
  pub decided : List Decision
  pub committed : List Decision
  pub found : List Decision
  pub lost : List Decision
  pub core : DecidesInLife old coming decided
  pub beginning : committed ++ (found ++ lost) ≡ decided
  pub continues : ContinueAll old.table old.seq decided
  pub table : new.table ≡ fold_of old.table (commands_of (committed ++ found))
  pub seq : new.seq ≡ old.seq + length (committed ++ found)
  pub calls : List V
  pub left : flat_map effects calls ≡ effects_of old.table (commands_of committed)
  pub given : FoldsTo call old_out calls new_out

-- lives, one after another
abbrev pub HaveDecided : {C V : Type 0} → (V → List Effect) → (C → V → C → Type 0)
    → List CoreLife → NumberedTable → NumberedTable → C → C → Type 0
HaveDecided {C} effects call lives old new old_out new_out =
    FoldsTo (λ (before : NumberedTable × C) (life : CoreLife) (after : NumberedTable × C).
    KeepsDecided effects call life.coming.items before.0 after.0 before.1 after.1)
    (old, old_out) lives (new, new_out)

-- What lives together make of a table: the fold of these commands; and what was given away is a
-- part of their effects, in order. Whatever marks were used up before, no mark is twice among them
-- and those of what was given away, and the table then covers them all.
pub record LeaveInAll {C V : Type 0} (effects : V → List Effect) (call : C → V → C → Type 0)
    (old new : NumberedTable) (old_out new_out : C) : Type 0 where
  pub commands : List Command
  pub table : new.table ≡ fold_of old.table commands
  pub seq : new.seq ≡ old.seq + length commands
  pub calls : List V
  pub given : FoldsTo call old_out calls new_out
  pub part : IsSubsequence (flat_map effects calls) (effects_of old.table commands)
  pub used : (marks : List Mark) → HasUsedUp old.table marks
      → HasUsedUp new.table (marks ++ marks_of (flat_map effects calls))
