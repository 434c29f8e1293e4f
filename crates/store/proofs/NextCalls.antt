-- One device call of what is under way.
use Rattle.std.proofs.Common.{◌≡◌, ◌∙◌, ◌+◌, ◌-◌, ◌⊎◌, inl, inr, ℕ, Bool, true, false, if◌then◌else◌, List, [], Option, Result, Err, length, sym, ap, subst, refl, arith}
use Rattle.lw_types.specs.declared.refusal.Refusal.{Refusal}
use Rattle.disk.specs.State.{EveryImage}
use Rattle.disk.specs.declared.disk.Disk.{Ghosts}
use Rattle.sessions.specs.Decision.{with_decisions}
use Rattle.sessions.specs.Table.{TableState}
use Rattle.sessions.specs.declared.decision.Decision.{Decision}
use Rattle.store.specs.Commit.{Sequel, MayFollow, table_after, tip_of}
use Rattle.store.specs.Flights.{Flight, MayLeave, all_failed, durable_in}
use Rattle.store.specs.Image.{HoldsTable}
use Rattle.store.specs.Phases.{HoldsEither}
use Rattle.store.specs.Publishing.{IsPublishingCall, IsPublishingOn}
use Rattle.store.specs.State.{StoreState, disk_of, store_state}
use Rattle.store.specs.UnderWay.{HasDurable, HoldsLeft, IsNextCall, IsOnDisk, flights_in}
use Rattle.store.specs.declared.publishing.Publishing.{Publishing}
use Rattle.store.specs.declared.store.Store.{Store}
use Rattle.store.specs.declared.under_way.Called.{Called}
use Rattle.store.specs.declared.under_way.UnderWay.{UnderWay}

-- a call of a checkpoint that failed
pub publishing_fails : {D : Type 0} (disk : Ghosts D) (old new : Store D disk) (publishing : Publishing) (r : Result (Option Publishing) Refusal) (e : Refusal) → r ≡ Err e
    → (store_state disk.state new).table ≡ (store_state disk.state old).table → (store_state disk.state new).seq ≡ (store_state disk.state old).seq
    → (disk.honest → IsPublishingOn (store_state disk.state old) publishing
    → EveryImage (disk.state (disk_of new)) (HoldsTable (store_state disk.state old).table (store_state disk.state old).seq))
    → IsPublishingCall disk old publishing r new
publishing_fails disk old new publishing r e is table seq images =
    subst (λ r. IsPublishingCall disk old publishing r new) (sym is)
    (record { fits = tt; calls = tt; table = table; seq = seq; on_disk = λ honest on. tt; images = images; generation = λ honest on. tt })

-- the number of calls that are left after the first one
pub five_left : (open_still : Bool) → open_still ≡ true → 5 ≡ (if open_still then 6 else 4) - 1
five_left open_still is = ap (λ b. (if b then 6 else 4) - 1) (sym is)

pub three_left : (open_still : Bool) → open_still ≡ false → 3 ≡ (if open_still then 6 else 4) - 1
three_left open_still is = ap (λ b. (if b then 6 else 4) - 1) (sym is)

pub four_left : (open_still : Bool) → open_still ≡ false → ◌≡◌ {A = ℕ} (if open_still then 6 else 4) 4
four_left open_still is = ap (λ b. let calls : ℕ = (if b then 6 else 4) in calls) is

-- an image holds the same by equal names
held : (t t' : TableState) (n n' : ℕ) (image : List ℕ) → t ≡ t' → n ≡ n' → HoldsTable t n image → HoldsTable t' n' image
held t t' n n' image table number holds = subst (λ n. HoldsTable t' n image) number (subst (λ t. HoldsTable t n image) table holds)

none : (s : StoreState) → s.seq ≡ s.seq + 0
none s = omega arith

-- if no batch is durable the store has what it had
pub keeps_all : (s s' : StoreState) (flights : List (Flight Decision)) → durable_in [] flights ≡ [] → s'.table ≡ s.table → s'.seq ≡ s.seq → HasDurable flights s s'
keeps_all s s' flights alone table seq = record {
  table = table ∙ ap (with_decisions s.table) (sym alone);
  seq = seq ∙ (none s ∙ ap (λ (l : List Decision). s.seq + length l) (sym alone));
}

-- and if its image holds that, it is what may be left
pub left_without : (s : StoreState) (flights : List (Flight Decision)) (image : List ℕ) → MayLeave [] flights [] → HoldsTable s.table s.seq image → HoldsLeft s flights image
left_without s flights image leaves holds = ([], leaves, held s.table s.table s.seq (s.seq + 0) image refl (none s) holds)

-- or with a batch
pub left_with : (s : StoreState) (flights : List (Flight Decision)) (sequel : Sequel) (size : ℕ) (image : List ℕ) → MayFollow (tip_of s) sequel size
    → MayLeave [] flights sequel.decisions → HoldsTable (table_after s sequel) sequel.seq image → HoldsLeft s flights image
left_with s flights sequel size image way leaves holds = (sequel.decisions, leaves, held _ _ _ _ image refl way.seq holds)

pub left_either : (s : StoreState) (flights : List (Flight Decision)) (sequel : Sequel) (size : ℕ) (image : List ℕ) → MayFollow (tip_of s) sequel size
    → ((kept : List Decision) → (kept ≡ []) ⊎ (kept ≡ sequel.decisions) → MayLeave [] flights kept) → HoldsEither s sequel image → HoldsLeft s flights image
left_either s flights sequel size image way leaves (inl holds) = left_without s flights image (leaves [] (inl refl)) holds
left_either s flights sequel size image way leaves (inr holds) = left_with s flights sequel size image way (leaves sequel.decisions (inr refl)) holds

-- a call that failed
pub call_fails : {D T : Type 0} (disk : Ghosts D) (old new : Store D disk) (under_way : UnderWay T) (r : Result (Called T) Refusal) (e : Refusal) → r ≡ Err e
    → durable_in [] (all_failed (flights_in under_way)) ≡ []
    → (store_state disk.state new).table ≡ (store_state disk.state old).table → (store_state disk.state new).seq ≡ (store_state disk.state old).seq
    → (disk.honest → IsOnDisk (store_state disk.state old) under_way
    → EveryImage (disk.state (disk_of new)) (HoldsLeft (store_state disk.state old) (all_failed (flights_in under_way))))
    → IsNextCall disk old under_way r new
call_fails disk old new under_way r e is alone table seq images =
    subst (λ r. IsNextCall disk old under_way r new) (sym is)
    (record {
      flights = tt;
      along = tt;
      calls = tt;
      way = tt;
      tip = λ tip is. tt;
      durable = keeps_all (store_state disk.state old) (store_state disk.state new) (all_failed (flights_in under_way)) alone table seq;
      images = images;
      on_disk = λ honest on. tt;
      generation = λ honest on. tt;
    })
