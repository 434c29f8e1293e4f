-- One more chain, or one more life.
use Rattle.std.proofs.Common.{◌≡◌, ◌++◌, ◌<◌, ℕ, List, [], ◌∷◌, Result, Ok, Err, length, map, refl, subst, sym}
use Rattle.std.specs.Result.{IsErrAnd}
use Rattle.devices.specs.declared.effect.Effect.{Effect}
use Rattle.disk.specs.declared.disk.Disk.{Ghosts}
use Rattle.lw_types.specs.declared.refusal.Refusal.{Refusal}
use Rattle.store.specs.declared.store.Store.{Store}
use Rattle.flusher.specs.Chain.{FeedGives, IsChain}
use Rattle.flusher.specs.Serving.{MakeChains}
use Rattle.flusher.proofs.Leading.{chains_then}
use Rattle.flusher_lives.specs.OverLives.{AreFlusherLives, IsFlusherLife, MakeUpTo}
use Rattle.flusher_lives.specs.declared.over_lives.FlusherLife.{FlusherLife}

-- this number of chains, and one that was refused
pub refused_then : {D F C V : Type 0} (disk : Ghosts D) (gives : FeedGives F) (effects : V → List Effect) (call : C → V → C → Type 0) (most chains : ℕ)
    (old mid new : Store D disk) (p q r : F) (x y z : C) (counts : List ℕ) (result : Result (Unit {0}) Refusal) (e : Refusal)
    → IsErrAnd result (λ answered. answered ≡ e) → length counts < chains
    → MakeChains disk gives effects call most old mid p q x y (map (λ n. Ok n) counts)
    → IsChain disk gives effects call most mid new q r y z (Err e)
    → MakeUpTo disk gives effects call most chains old new p r x z result
refused_then disk gives effects call most chains old mid new p q r x y z counts (Ok done) e is few made chain = absurd is
refused_then disk gives effects call most chains old mid new p q r x y z counts (Err answered) e is few made chain = record {
  counts = counts;
  many = few;
  made = chains_then disk gives effects call most old mid new p q r x y z (map (λ n. Ok n) counts) (Err answered) made
      (subst (λ a. IsChain disk gives effects call most mid new q r y z (Err a)) (sym is) chain);
}

-- one more life after those before
pub lives_then : {D F C V : Type 0} (disk : Ghosts D) (gives : FeedGives F) (effects : V → List Effect) (call : C → V → C → Type 0)
    (old mid new : D) (p q r : F) (x y z : C) (lives : List FlusherLife) (life : FlusherLife)
    → AreFlusherLives disk gives effects call lives old mid p q x y
    → IsFlusherLife disk gives effects call life mid new q r y z
    → AreFlusherLives disk gives effects call (lives ++ life ∷ []) old new p r x z
lives_then disk gives effects call old mid new p q r x y z [] life (same, (same_feed, same_out)) is = (
  new,
  (
    r,
    (
      z,
      (
        subst (λ d. IsFlusherLife disk gives effects call life d new p r x z) same
            (subst (λ f. IsFlusherLife disk gives effects call life mid new f r x z) same_feed
            (subst (λ o. IsFlusherLife disk gives effects call life mid new q r o z) same_out is)),
        (refl, (refl, refl)),
      ),
    ),
  ),
)
lives_then disk gives effects call old mid new p q r x y z (l ∷ lives) life (d, (f, (o, (first, rest)))) is =
    (d, (f, (o, (first, lives_then disk gives effects call d mid new f q r o y z lives life rest is))))
