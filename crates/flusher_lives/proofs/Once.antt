-- No mark leaves twice over several lives.
use Rattle.std.proofs.Common.{◌≡◌, ◌++◌, ◌+◌, ℕ, List, flat_map, inl, inr, length, sym, subst, ◌∷◌, [], true}
use Rattle.devices.specs.declared.command.Command.{Command}
use Rattle.devices.specs.declared.effect.Effect.{Effect}
use Rattle.devices.specs.declared.mark.Mark.{Mark}
use Rattle.disk.specs.State.{State}
use Rattle.sessions.specs.Marks.{HasUsedUp, IsSubsequence, marks_of}
use Rattle.sessions.specs.Table.{TableState, effects_of, fold_of}
use Rattle.flusher.specs.Lived.{AreOnDisk, GoOnFrom}
use Rattle.flusher.specs.Lives.{LifeEvent, Lives, no_lives, lives_of}
use Rattle.flusher.specs.Lives.LifeEvent.{Opened}
use Rattle.flusher_lives.specs.OverLives.{LeaveOnce}
use Rattle.flusher.proofs.Leading.{all_then}

-- the laws that this uses
pub record OnceLaws : Type 0 where
  pub part : (t : TableState) (events : List LifeEvent) → IsSubsequence (lives_of t events).left (effects_of t (lives_of t events).durable)
  pub after : (t : TableState) (marks : List Mark) (commands : List Command) → HasUsedUp t marks
      → HasUsedUp (fold_of t commands) (marks ++ marks_of (effects_of t commands))
  pub what_left : (t : TableState) (marks : List Mark) (effects left : List Effect) → IsSubsequence left effects → HasUsedUp t (marks ++ marks_of effects)
      → HasUsedUp t (marks ++ marks_of left)

-- the fold of commands covers what left, if that is part of their effects
used : OnceLaws → (t : TableState) (marks : List Mark) (commands : List Command) (left : List Effect) → HasUsedUp t marks
    → IsSubsequence left (effects_of t commands) → HasUsedUp (fold_of t commands) (marks ++ marks_of left)
used laws t marks commands left before part =
    laws.what_left (fold_of t commands) marks (effects_of t commands) left part (laws.after t marks commands before)

-- lives continued from a disk that holds a table, when these marks were used up
pub leave_once : {C V : Type 0} (effects : V → List Effect) (call : C → V → C → Type 0) → OnceLaws → (t : TableState) (number : ℕ) (marks : List Mark)
    (old disk : State) (p q : C) → HasUsedUp t marks → AreOnDisk no_lives t number old
    → GoOnFrom effects call (λ lives t number. AreOnDisk lives t number old) (λ lives t number. AreOnDisk lives t number disk) p q
    → LeaveOnce effects call t number marks disk p q
leave_once {C} {V} effects call laws t number marks old disk p q before begun go =
    let a = go t number no_lives begun in
    let lives = lives_of t a.0 in
    let calls = a.1.1.0 in
    let all = flat_map effects calls in
    let left : lives.left ≡ all = a.1.1.1.0 in
    let part : IsSubsequence all (effects_of t lives.durable) = subst (λ l. IsSubsequence l (effects_of t lives.durable)) left (laws.part t a.0) in
    let found : IsSubsequence lives.left (effects_of t (lives.durable ++ lives.torn)) =
    subst (λ (l : Lives). IsSubsequence l.left (effects_of t l.durable)) (all_then t no_lives a.0 (Opened true)) (laws.part t (a.0 ++ Opened true ∷ [])) in
    let with_torn : IsSubsequence all (effects_of t (lives.durable ++ lives.torn)) =
    subst (λ l. IsSubsequence l (effects_of t (lives.durable ++ lives.torn))) left found in
    record {
      events = a.0;
      calls = calls;
      given = a.1.1.1.1;
      left = sym left;
      part = part;
      once = (used laws t marks lives.durable all before part).distinct;
      on_disk = a.1.0;
      covered = λ image permitted. elim (a.1.0 image permitted) [
        | inl h ↦ (fold_of t lives.durable, (number + length lives.durable, (h, used laws t marks lives.durable all before part)))
        | inr h ↦ (
          fold_of t (lives.durable ++ lives.torn),
          (number + length (lives.durable ++ lives.torn), (h, used laws t marks (lives.durable ++ lives.torn) all before with_torn)),
        )
      ];
    }
