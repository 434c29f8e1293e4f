-- A server's chains.
use Rattle.std.specs.Prelude.{◌≡◌, ◌++◌, ℕ, zero, suc, Bool, true, false, List, [], ◌∷◌, map}
use Rattle.std.specs.Prelude.{Result, Ok, Err, MatchResult}
use Rattle.std.specs.List.{FoldsTo}
use Rattle.devices.specs.declared.effect.Effect.{Effect}
use Rattle.disk.specs.declared.disk.Disk.{Ghosts}
use Rattle.lw_types.specs.declared.refusal.Refusal.{Refusal}
use Rattle.store.specs.declared.store.Store.{Store}
use Rattle.flusher.specs.Chain.{FeedGives, IsChain}

-- Chains with these results, one after another: each goes on with the store, the feed and the
-- closure that the one before it left.
abbrev pub MakeChains : {D F C V : Type 0} (disk : Ghosts D) → FeedGives F → (V → List Effect)
    → (C → V → C → Type 0) → ℕ → Store D disk → Store D disk → F → F → C → C
    → List (Result ℕ Refusal) → Type 0
MakeChains disk gives effects call most old new old_feed new_feed old_out new_out [] =
    (new ≡ old) × ((new_feed ≡ old_feed) × (new_out ≡ old_out))
MakeChains {D} {F} {C} {V} disk gives effects call most old new old_feed new_feed old_out new_out
    (answer ∷ answers) =
    (store : Store D disk) × ((feed : F) × ((out : C)
    × (IsChain disk gives effects call most old store old_feed feed old_out out answer
    × MakeChains disk gives effects call most store new feed new_feed out new_out answers)))

-- the result of the last of them: it had no batch, or had this refusal
abbrev pub last_answer : Result (Unit {0}) Refusal → Result ℕ Refusal
last_answer (Ok done) = Ok 0
last_answer (Err e) = Err e

-- the results of all of them: each before the last one had one of these numbers of decisions
abbrev pub answers_of : List ℕ → Result (Unit {0}) Refusal → List (Result ℕ Refusal)
answers_of counts result = map (λ count. Ok count) counts ++ last_answer result ∷ []

-- what is asked after a chain with this number of decisions: if it had none, whether all is done,
-- which isn't so
abbrev pub GoesOnAfter : {S : Type 0} → (S → Bool → S → Type 0) → S → ℕ → S → Type 0
GoesOnAfter ask old zero new = ask old false new
GoesOnAfter ask old (suc count) new = new ≡ old

-- what is asked after all of them: the above after each one before the last; after the last one, if
-- it wasn't refused, whether all is done, which is so
abbrev pub AsksAfter : {S : Type 0} → (S → Bool → S → Type 0) → List ℕ
    → Result (Unit {0}) Refusal → S → S → Type 0
AsksAfter {S} ask counts result old new =
    (last : S) × (FoldsTo (GoesOnAfter ask) old counts last
    × MatchResult result (λ _. ask last true new) (λ _. new ≡ last))
