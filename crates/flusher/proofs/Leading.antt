-- Lives that go on by several cycles, one after another.
use denote.Param.Always.{always_mut, mut_next}
use denote.Param.Members.{Called, Mut}
use Rattle.std.proofs.Common.{◌≡◌, ◌∙◌, ◌++◌, ℕ, List, [], ◌∷◌, Bool, true, false, Result, Ok, map, flat_map, ap, refl, subst, sym, append_assoc, append-nil}
use Rattle.std.proofs.lemmas.List.{map-append}
use Rattle.std.specs.List.{FoldsTo}
use Rattle.devices.specs.declared.effect.Effect.{Effect}
use Rattle.disk.specs.declared.disk.Disk.{Ghosts}
use Rattle.lw_types.specs.declared.refusal.Refusal.{Refusal}
use Rattle.sessions.specs.Decision.{commands_of}
use Rattle.sessions.specs.Table.{TableState, fold_of}
use Rattle.sessions.specs.declared.decision.Decision.{Decision}
use Rattle.store.specs.State.{StoreState}
use Rattle.store.specs.declared.store.Store.{Store}
use Rattle.flusher.specs.Chain.{FeedGives, IsChain, LeaveInOrder}
use Rattle.flusher.specs.Lived.{GoOnFrom, HaveLed, IsKnownOfLives, LeadOn}
use Rattle.flusher.specs.Lives.{LifeEvent, Lives, lives_after, lives_after_all}
use Rattle.flusher.specs.Lives.LifeEvent.{Opened}
use Rattle.flusher.specs.Serving.{MakeChains}

pub all_then : (t : TableState) (lives : Lives) (events : List LifeEvent) (event : LifeEvent)
    → lives_after_all t lives (events ++ event ∷ []) ≡ lives_after t (lives_after_all t lives events) event
all_then t lives [] event = refl
all_then t lives (e ∷ events) event = all_then t (lives_after t lives e) events event

module _ {C V : Type 0} (effects : V → List Effect) (call : C → V → C → Type 0) where
  -- nothing has happened yet
  pub at_once : (here : IsKnownOfLives) (old : C) → GoOnFrom effects call here here old old
  at_once here old t number lives led = ([], (led, ([], (sym (append-nil lives.left), refl))))

  all_more : (t : TableState) (lives : Lives) (events more : List LifeEvent)
      → lives_after_all t lives (events ++ more) ≡ lives_after_all t (lives_after_all t lives events) more
  all_more t lives [] more = refl
  all_more t lives (e ∷ events) more = all_more t (lives_after t lives e) events more

  pub flat_more : (calls more : List V) → flat_map effects (calls ++ more) ≡ flat_map effects calls ++ flat_map effects more
  flat_more [] more = refl
  flat_more (c ∷ calls) more = ap (λ l. effects c ++ l) (flat_more calls more) ∙ sym (append_assoc (effects c) (flat_map effects calls) (flat_map effects more))

  pub folds_more : (p q r : C) (calls more : List V) → FoldsTo call p calls q → FoldsTo call q more r → FoldsTo call p (calls ++ more) r
  folds_more p q r [] more is folds = subst (λ x. FoldsTo call x more r) (sym is) folds
  folds_more p q r (c ∷ calls) more (next, first, rest) folds = (next, first, folds_more next q r calls more rest folds)

  -- lives that came there, and went on from there
  pub go_then : (here mid there : IsKnownOfLives) (p q r : C) → GoOnFrom effects call here mid p q → GoOnFrom effects call mid there q r
      → GoOnFrom effects call here there p r
  go_then here mid there p q r first second t number lives led =
      let a = first t number lives led in
      let b = second t number (lives_after_all t lives a.0) a.1.0 in
      let both = all_more t lives a.0 b.0 in
      let calls = a.1.1.0 in
      let more = b.1.1.0 in (
        a.0 ++ b.0,
        (
          subst (λ l. there l t number) (sym both) b.1.0,
          (
            calls ++ more,
            (
              ap (λ (l : Lives). l.left) both
                  ∙ (b.1.1.1.0
                  ∙ (ap (λ l. l ++ flat_map effects more) a.1.1.1.0
                  ∙ (append_assoc lives.left (flat_map effects calls) (flat_map effects more) ∙ ap (λ l. lives.left ++ l) (sym (flat_more calls more))))),
              folds_more p q r calls more a.1.1.1.1 b.1.1.1.1,
            ),
          ),
        ),
      )

  -- what is known there implies something else too
  pub go_weaker : (here mid there : IsKnownOfLives) (p q : C) → ((lives : Lives) (t : TableState) (number : ℕ) → mid lives t number → there lives t number)
      → GoOnFrom effects call here mid p q → GoOnFrom effects call here there p q
  go_weaker here mid there p q weaker first t number lives led =
      let a = first t number lives led in (a.0, (weaker (lives_after_all t lives a.0) t number a.1.0, a.1.1))

  nothing_left : (t : TableState) (lives : Lives) (found : Bool) → (lives_after t lives (Opened found)).left ≡ lives.left ++ []
  nothing_left t lives true = sym (append-nil lives.left)
  nothing_left t lives false = sym (append-nil lives.left)

  -- an opening, by which nothing left
  pub open_on : (here there : IsKnownOfLives) (o : C)
      → ((lives : Lives) (t : TableState) (number : ℕ) → here lives t number → (found : Bool) × there (lives_after t lives (Opened found)) t number)
      → GoOnFrom effects call here there o o
  open_on here there o opening t number lives led =
      let a = opening lives t number led in (Opened a.0 ∷ [], (a.1, ([], (nothing_left t lives a.0, refl))))

  -- the same of lives that led a store there
  pub nothing_yet : (s : StoreState) (old : C) → LeadOn effects call s s old old
  nothing_yet s old = at_once (λ lives t number. HaveLed lives t number s) old

  pub lead_then : (s mid there : StoreState) (p q r : C) → LeadOn effects call s mid p q → LeadOn effects call mid there q r → LeadOn effects call s there p r
  lead_then s mid there p q r first second =
      go_then (λ lives t number. HaveLed lives t number s) (λ lives t number. HaveLed lives t number mid) (λ lives t number. HaveLed lives t number there)
      p q r first second

-- a closure to which effects left can be called again
pub leaves_callable : {C V : Type 0} (effects : V → List Effect) (g : Mut C (V × Unit {0}) (Unit {0})) (t : TableState) (batches : List (List Decision)) (p q : C)
    → LeaveInOrder effects (λ before released after. Called g before (released, tt) tt after) t batches p q → always_mut g p → always_mut g q
leaves_callable effects g t [] p q is h = subst (always_mut g) (sym is) h
leaves_callable effects g t (batch ∷ batches) p q (v, (next, (all, (made, rest)))) h =
    leaves_callable effects g (fold_of t (commands_of batch)) batches next q rest (mut_next g p (v, tt) tt next next made refl h)

-- one more chain after those that were made
pub chains_then : {D F C V : Type 0} (disk : Ghosts D) (gives : FeedGives F) (effects : V → List Effect) (call : C → V → C → Type 0) (most : ℕ)
    (old mid new : Store D disk) (p q r : F) (x y z : C) (answers : List (Result ℕ Refusal)) (answer : Result ℕ Refusal)
    → MakeChains disk gives effects call most old mid p q x y answers
    → IsChain disk gives effects call most mid new q r y z answer
    → MakeChains disk gives effects call most old new p r x z (answers ++ answer ∷ [])
chains_then disk gives effects call most old mid new p q r x y z [] answer (same, (same_feed, same_out)) chain = (
  new,
  (
    r,
    (
      z,
      (
        subst (λ s. IsChain disk gives effects call most s new p r x z answer) same
            (subst (λ f. IsChain disk gives effects call most mid new f r x z answer) same_feed
            (subst (λ o. IsChain disk gives effects call most mid new q r o z answer) same_out chain)),
        (refl, (refl, refl)),
      ),
    ),
  ),
)
chains_then disk gives effects call most old mid new p q r x y z (a ∷ answers) answer (s, (f, (o, (first, rest)))) chain =
    (s, (f, (o, (first, chains_then disk gives effects call most s mid new f q r o y z answers answer rest chain))))

abbrev as_answer : ℕ → Result ℕ Refusal
as_answer count = Ok count

-- the same of chains with these numbers of decisions
pub counts_then : {D F C V : Type 0} (disk : Ghosts D) (gives : FeedGives F) (effects : V → List Effect) (call : C → V → C → Type 0) (most : ℕ)
    (old mid new : Store D disk) (p q r : F) (x y z : C) (counts : List ℕ) (count : ℕ)
    → MakeChains disk gives effects call most old mid p q x y (map (λ n. Ok n) counts)
    → IsChain disk gives effects call most mid new q r y z (Ok count)
    → MakeChains disk gives effects call most old new p r x z (map (λ n. Ok n) (counts ++ count ∷ []))
counts_then disk gives effects call most old mid new p q r x y z counts count made chain =
    subst (MakeChains disk gives effects call most old new p r x z) (sym (map-append as_answer counts (count ∷ [])))
    (chains_then disk gives effects call most old mid new p q r x y z (map (λ n. Ok n) counts) (Ok count) made chain)
