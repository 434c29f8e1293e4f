-- What images hold, along the calls of a commit or a checkpoint.
use Rattle.std.proofs.Common.{◌≡◌, ◌≢◌, ◌==◌, ◌∙◌, ◌+◌, inl, inr, ℕ, List, length, Result, Ok, Err, MatchBool, MatchResult, IsErrAnd, ap, subst, sym}
use Rattle.std.proofs.lemmas.Bool.Decides.{eqb_tells}
use Rattle.sessions.specs.Decision.{ContinueAll, FitAll, with_decisions, commands_of}
use Rattle.sessions.specs.declared.decision.Decision.{Decision}
use Rattle.sessions.specs.Table.{TableState, fold_of}
use Rattle.store.specs.Image.{HoldsTable}
use Rattle.store.specs.State.{StoreState}
use Rattle.flusher.specs.Cycle.{Commits, HoldsWithOrWithout}

-- ---- what holds of a result

pub on_refused : {T E : Type 0} (r : Result T E) (e : E) (P : T → Type 0) (Q : E → Type 0) → IsErrAnd r (λ y. y ≡ e) → Q e → MatchResult r P Q
on_refused (Ok x) e P Q h q = absurd h
on_refused (Err y) e P Q h q = subst Q (sym h) q

-- if there are some
pub on_some : (n : ℕ) (X Y : Type 0) → n ≢ 0 → Y → MatchBool (n == 0) X Y
on_some n X Y some y = elim (eqb_tells n 0) [
  | inl (is, none) ↦ absurd (some none)
  | inr (is, other) ↦ subst (λ b. MatchBool b X Y) (sym is) y
]

-- ---- what images hold

pub held_along : (s s' : StoreState) (image : List ℕ) → s'.table ≡ s.table → s'.seq ≡ s.seq → HoldsTable s'.table s'.seq image
    → HoldsTable s.table s.seq image
held_along s s' image table seq h = subst (λ t. HoldsTable t s.seq image) table (subst (λ n. HoldsTable s'.table n image) seq h)

pub with_or_without_along : (s s' : StoreState) (batch : List Decision) (image : List ℕ) → s'.table ≡ s.table → s'.seq ≡ s.seq
    → HoldsWithOrWithout s' batch image → HoldsWithOrWithout s batch image
with_or_without_along s s' batch image table seq (inl h) = inl (held_along s s' image table seq h)
with_or_without_along s s' batch image table seq (inr h) =
    inr (subst (λ t. HoldsTable (fold_of t (commands_of batch)) (s.seq + length batch) image) table
    (subst (λ n. HoldsTable (fold_of s'.table (commands_of batch)) (n + length batch) image) seq h))

pub commits_along : (s s' new : StoreState) (batch : List Decision) → s'.table ≡ s.table → s'.seq ≡ s.seq → Commits s' new batch → Commits s new batch
commits_along s s' new batch table seq c = record {
  continues = subst (λ t. ContinueAll t s.seq batch) table (subst (λ n. ContinueAll s'.table n batch) seq c.continues);
  table = c.table ∙ ap (λ t. fold_of t (commands_of batch)) table;
  seq = c.seq ∙ ap (λ n. n + length batch) seq;
}

-- decisions that continue a table leave the fold of their commands
abbrev pub AreFolded : Type 0
AreFolded = (t : TableState) (ds : List Decision) → FitAll t ds → fold_of t (commands_of ds) ≡ with_decisions t ds
