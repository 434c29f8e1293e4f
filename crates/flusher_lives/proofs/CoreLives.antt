-- Chains of a core one after another, and the crash after them.
use Rattle.std.proofs.Common.{◌≡◌, ◌∙◌, ◌+◌, inl, inr, ℕ, List, [], ◌∷◌, ◌++◌, length, flat_map, Vec, Global, sym, ap, subst, refl, arith, append_assoc, length-append}
use Rattle.std.specs.List.{FoldsTo}
use Rattle.std.proofs.lemmas.Grind.{flat_map-append}
use Rattle.std.proofs.lemmas.List.{append-nil, length-map, map-append}
use Rattle.devices.specs.declared.command.Command.{Command}
use Rattle.devices.specs.declared.effect.Effect.{Effect}
use Rattle.devices.specs.declared.mark.Mark.{Mark}
use Rattle.disk.specs.State.{EveryImage}
use Rattle.sessions.specs.Decision.{ContinueAll, with_decisions, commands_of}
use Rattle.sessions.specs.Marks.{HasUsedUp, IsSubsequence, marks_of}
use Rattle.sessions.specs.Table.{TableState, effects_of, fold_of}
use Rattle.sessions.specs.declared.decision.Decision.{Decision}
use Rattle.session_core.specs.Core.{CoreState, new_core}
use Rattle.session_core.specs.State.{DecisionsState, new_decisions}
use Rattle.store.specs.Image.{HoldsTable}
use Rattle.store.specs.State.{StoreState, IsSettled}
use Rattle.flusher.specs.Cycle.{HoldsWithOrWithout}
use Rattle.flusher_lives.specs.Coming.{DecidesAfterComing}
use Rattle.flusher_lives.specs.Deciding.{CommitsDecided, CommitsInLife, EachHolds, HaveDecided, IsInStep, KeepsDecided, LeaveInAll, NumberedTable, StaysInStep}
use Rattle.session_core.specs.declared.event.Event.{Event}
use Rattle.flusher_lives.specs.declared.core_feed.CoreFeed.{CoreFeed}
use Rattle.flusher_lives.specs.declared.core_lives.CoreLife.{CoreLife}
use Rattle.flusher_lives.proofs.Decided.{TakingLaws, folds_then, in_both}

-- a core that begins with what a store has continues from it
pub begins_in_step : (s : StoreState) (core : CoreState) → core ≡ new_core s.table s.seq → IsInStep s core.decisions
begins_in_step s core begun =
    let none : s.seq + 0 ≡ s.seq = omega arith in
    subst (λ (core : CoreState). IsInStep s core.decisions) (sym begun) (record { table = refl; seq = none })

module _ {C V : Type 0} (honest : Type 0) (effects : V → List Effect) (call : C → V → C → Type 0) where
  -- at the beginning of a life
  pub at_first : ((s : StoreState) → IsSettled s → EveryImage s.log.disk (HoldsTable s.table s.seq)) → (s : StoreState) (feed : CoreFeed) (o : C)
      → let begun : CoreFeed = record feed { core = new_core s.table s.seq } in StaysInStep honest effects call s s begun begun o o
  at_first on_disk s feed o = (
    record {
      decided = [];
      committed = [];
      torn = [];
      waiting = [];
      meanwhile = ([], (refl, refl));
      beginning = refl;
      continues = record { fit = tt; numbered = tt };
      table = refl;
      seq = none s.seq;
      calls = [];
      left = refl;
      given = refl;
      images = λ is settled image permitted. inl (on_disk s settled image permitted);
    },
    (refl, (refl, (record { table = refl; seq = sym (none s.seq) }, λ is settled. settled))),
  )
    where
      none : (n : ℕ) → n ≡ n + 0
      none n = omega arith

  module _ (laws : TakingLaws) (s0 s1 s2 : StoreState) (f0 f1 f2 : CoreFeed) (p q r : C) (from : IsInStep s0 f0.core.decisions)
      (first : StaysInStep honest effects call s0 s1 f0 f1 p q) (y : CommitsDecided honest effects call s1 s2 f1 f2 q r) where
    abbrev x : CommitsDecided honest effects call s0 s1 f0 f1 p q
    x = first.0

    abbrev c0 : DecisionsState
    c0 = f0.core.decisions

    abbrev c1 : DecisionsState
    c1 = f1.core.decisions

    lists : x.committed ++ c1.log ≡ c0.log ++ x.decided
    lists =
        ap (λ t. x.committed ++ (t ++ c1.log)) (sym first.1.0)
        ∙ (ap (λ l. x.committed ++ (x.torn ++ l)) (sym first.1.1.0) ∙ x.beginning)

    more : x.committed ++ (c1.log ++ y.decided) ≡ c0.log ++ (x.decided ++ y.decided)
    more =
        sym (append_assoc x.committed c1.log y.decided)
        ∙ (ap (λ l. l ++ y.decided) lists ∙ append_assoc c0.log x.decided y.decided)

    once : ContinueAll c0.base (c0.opening + c0.taken) x.committed
    once =
        ((laws.joins c0.base (c0.opening + c0.taken) x.committed c1.log).0
        (subst (λ l. ContinueAll c0.base (c0.opening + c0.taken) l) (sym lists) x.continues)).0

    base : c1.base ≡ with_decisions c0.base x.committed
    base =
        first.1.1.1.0.table
        ∙ (x.table
        ∙ (ap (λ t. fold_of t (commands_of x.committed)) (sym from.table) ∙ laws.folding c0.base x.committed once.fit))

    number : c1.opening + c1.taken ≡ c0.opening + c0.taken + length x.committed
    number = let a = first.1.1.1.0.seq in let b = x.seq in let c = from.seq in omega (arith, a, b, c)

    on : ContinueAll c0.base (c0.opening + c0.taken) (c0.log ++ (x.decided ++ y.decided))
    on =
        subst (λ l. ContinueAll c0.base (c0.opening + c0.taken) l) more
        ((laws.joins c0.base (c0.opening + c0.taken) x.committed (c1.log ++ y.decided)).1 (
          once,
          subst (λ t. ContinueAll t (c0.opening + c0.taken + length x.committed) (c1.log ++ y.decided)) base
              (subst (λ n. ContinueAll c1.base n (c1.log ++ y.decided)) number y.continues),
        ))

    commands : commands_of (x.committed ++ y.committed) ≡ commands_of x.committed ++ commands_of y.committed
    commands = map-append (λ (d : Decision). d.command) x.committed y.committed

    pub both : CommitsDecided honest effects call s0 s2 f0 f2 p r
    both =
        record {
          decided = x.decided ++ y.decided;
          committed = x.committed ++ y.committed;
          torn = y.torn;
          waiting = y.waiting;
          meanwhile = in_both DecidesAfterComing f0 f1 f2 x.decided y.decided x.meanwhile y.meanwhile;
          beginning =
              append_assoc x.committed y.committed (y.torn ++ y.waiting)
              ∙ (ap (λ l. x.committed ++ l) y.beginning ∙ more);
          continues = on;
          table =
              y.table
              ∙ (ap (λ t. fold_of t (commands_of y.committed)) x.table
              ∙ (sym (laws.composing s0.table (commands_of x.committed) (commands_of y.committed)) ∙ ap (fold_of s0.table) (sym commands)));
          seq =
              let a = x.seq in let b = y.seq in let c = length-append x.committed y.committed in omega (arith, a, b, c);
          calls = x.calls ++ y.calls;
          left =
              flat_map-append effects x.calls y.calls
              ∙ (ap (λ l. l ++ flat_map effects y.calls) x.left
              ∙ (ap (λ l. effects_of s0.table (commands_of x.committed) ++ l) y.left
              ∙ (ap (λ t. effects_of s0.table (commands_of x.committed) ++ effects_of t (commands_of y.committed)) x.table
              ∙ (sym (laws.effects s0.table (commands_of x.committed) (commands_of y.committed)) ∙ ap (effects_of s0.table) (sym commands)))));
          given = folds_then call p q r x.calls y.calls x.given y.given;
          images = λ is settled. y.images is (first.1.1.1.1 is settled);
        }

  pub both_in_step : (laws : TakingLaws) (s0 s1 s2 : StoreState) (f0 f1 f2 : CoreFeed) (p q r : C) → IsInStep s0 f0.core.decisions
      → StaysInStep honest effects call s0 s1 f0 f1 p q → StaysInStep honest effects call s1 s2 f1 f2 q r → StaysInStep honest effects call s0 s2 f0 f2 p r
  unfolding both
  both_in_step laws s0 s1 s2 f0 f1 f2 p q r from first second = (
    both laws s0 s1 s2 f0 f1 f2 p q r from first second.0,
    (second.1.0, (second.1.1.0, (second.1.1.1.0, λ is settled. second.1.1.1.1 is (first.1.1.1.1 is settled)))),
  )

  same_table : (x : NumberedTable) (t : TableState) (n : ℕ) → x.table ≡ t → x.seq ≡ n → x ≡ record { table = t; seq = n }
  same_table x t n table seq = ap (λ t. record { table = t; seq = x.seq }) table ∙ ap (λ n. record { table = t; seq = n }) seq

  -- what a crash leaves of a store that was opened with this table
  pub kept : (laws : TakingLaws) (coming : List (Vec (ℕ × Event) Global)) (s0 s1 : StoreState) (p q : C) → honest → IsSettled s0
      → CommitsInLife honest effects call coming s0 s1 p q → (first : NumberedTable) → first.table ≡ s0.table → first.seq ≡ s0.seq
      → EachHolds s1.log.disk (λ last. KeepsDecided effects call coming first last p q)
  kept laws coming s0 s1 p q is settled (f, (g, (begun, (comes, x)))) first table seq image permitted =
      subst (λ first. (found : NumberedTable) × (HoldsTable found.table found.seq image × KeepsDecided effects call coming first found p q))
      (sym (same_table first s0.table s0.seq table seq)) (by (x.images is settled image permitted))
    where
      all : (n : ℕ) → n + 0 ≡ n
      all n = omega arith

      at_first : f.core.decisions ≡ new_decisions s0.table s0.seq
      at_first = ap (λ (core : CoreState). core.decisions) begun

      begins : x.committed ++ (x.torn ++ x.waiting) ≡ x.decided
      begins = x.beginning ∙ ap (λ (s : DecisionsState). s.log ++ x.decided) at_first

      continues : ContinueAll s0.table s0.seq x.decided
      continues =
          subst (λ n. ContinueAll s0.table n x.decided) (all s0.seq)
          (subst (λ (s : DecisionsState). ContinueAll s.base (s.opening + s.taken) (s.log ++ x.decided)) at_first x.continues)

      by : HoldsWithOrWithout s1 x.torn image
          → (found : NumberedTable) × (HoldsTable found.table found.seq image × KeepsDecided effects call coming (record { table = s0.table; seq = s0.seq }) found p q)
      by (inl without) = (
        record { table = s1.table; seq = s1.seq },
        (
          without,
          record {
            decided = x.decided;
            committed = x.committed;
            found = [];
            lost = x.torn ++ x.waiting;
            core = record { first = f; last = g; core = begun; comes = comes; meanwhile = x.meanwhile };
            beginning = begins;
            continues = continues;
            table = x.table ∙ ap (λ l. fold_of s0.table (commands_of l)) (sym (append-nil x.committed));
            seq = x.seq ∙ ap (λ (l : List Decision). s0.seq + length l) (sym (append-nil x.committed));
            calls = x.calls;
            left = x.left;
            given = x.given;
          },
        ),
      )
      by (inr with) = (
        record { table = fold_of s1.table (commands_of x.torn); seq = s1.seq + length x.torn },
        (
          with,
          record {
            decided = x.decided;
            committed = x.committed;
            found = x.torn;
            lost = x.waiting;
            core = record { first = f; last = g; core = begun; comes = comes; meanwhile = x.meanwhile };
            beginning = begins;
            continues = continues;
            table =
                ap (λ t. fold_of t (commands_of x.torn)) x.table
                ∙ (sym (laws.composing s0.table (commands_of x.committed) (commands_of x.torn))
                ∙ ap (fold_of s0.table) (sym (map-append (λ (d : Decision). d.command) x.committed x.torn)));
            seq =
                let b = x.seq in let c = length-append x.committed x.torn in omega (arith, b, c);
            calls = x.calls;
            left = x.left;
            given = x.given;
          },
        ),
      )

  -- nothing happened
  pub keeps_all : (life : CoreLife) (x : NumberedTable) (p : C) → KeepsDecided effects call life.coming.items x x p p
  keeps_all life x p =
      let begun : CoreFeed = record { core = new_core x.table x.seq; coming = life.coming } in
      record {
        core = record { first = begun; last = begun; core = refl; comes = refl; meanwhile = ([], (refl, refl)) };
        decided = [];
        committed = [];
        found = [];
        lost = [];
        beginning = refl;
        continues = record { fit = tt; numbered = tt };
        table = refl;
        seq = omega arith;
        calls = [];
        left = refl;
        given = refl;
      }

  -- ---- all lives together

  record Part (old new : NumberedTable) (p q : C) : Type 0 where
    commands : List Command
    table : new.table ≡ fold_of old.table commands
    seq : new.seq ≡ old.seq + length commands
    calls : List V
    given : FoldsTo call p calls q
    part : IsSubsequence (flat_map effects calls) (effects_of old.table commands)

  module _ (laws : TakingLaws)
      (longer : (left whole more : List Effect) → IsSubsequence left whole → IsSubsequence left (whole ++ more))
      (extended : (left whole more : List Effect) → IsSubsequence left whole → IsSubsequence (left ++ more) (whole ++ more)) where
    one_life_more : (coming : List (Vec (ℕ × Event) Global)) (old between new : NumberedTable) (p o q : C) → Part old between p o
        → KeepsDecided effects call coming between new o q → Part old new p q
    one_life_more coming old between new p o q x k =
        record {
          commands = x.commands ++ commands_of (k.committed ++ k.found);
          table =
              k.table
              ∙ (ap (λ t. fold_of t (commands_of (k.committed ++ k.found))) x.table
              ∙ sym (laws.composing old.table x.commands (commands_of (k.committed ++ k.found))));
          seq =
              let a = x.seq in
              let b = k.seq in
              let c = length-append x.commands (commands_of (k.committed ++ k.found)) in
              let d = length-map (k.committed ++ k.found) (λ (d : Decision). d.command) in
              omega (arith, a, b, c, d);
          calls = x.calls ++ k.calls;
          given = folds_then call p o q x.calls k.calls x.given k.given;
          part = subst (λ l. IsSubsequence l (effects_of old.table (x.commands ++ commands_of (k.committed ++ k.found)))) (sym lefts)
              (subst (λ l. IsSubsequence (flat_map effects x.calls ++ (effects_of between.table (commands_of k.committed))) l) (sym wholes)
              (longer (flat_map effects x.calls ++ (effects_of between.table (commands_of k.committed))) (effects_of old.table x.commands ++ (effects_of between.table (commands_of k.committed))) (effects_of (fold_of between.table (commands_of k.committed)) (commands_of k.found))
              (extended (flat_map effects x.calls) (effects_of old.table x.commands) (effects_of between.table (commands_of k.committed)) x.part)));
        }
      where
        lefts : flat_map effects (x.calls ++ k.calls) ≡ flat_map effects x.calls ++ (effects_of between.table (commands_of k.committed))
        lefts = flat_map-append effects x.calls k.calls ∙ ap (λ l. flat_map effects x.calls ++ l) k.left

        wholes : effects_of old.table (x.commands ++ commands_of (k.committed ++ k.found)) ≡ (effects_of old.table x.commands ++ (effects_of between.table (commands_of k.committed))) ++ (effects_of (fold_of between.table (commands_of k.committed)) (commands_of k.found))
        wholes =
            laws.effects old.table x.commands (commands_of (k.committed ++ k.found))
            ∙ (ap (λ t. effects_of old.table x.commands ++ effects_of t (commands_of (k.committed ++ k.found))) (sym x.table)
            ∙ (ap (λ l. effects_of old.table x.commands ++ effects_of between.table l) (map-append (λ (d : Decision). d.command) k.committed k.found)
            ∙ (ap (λ l. effects_of old.table x.commands ++ l) (laws.effects between.table (commands_of k.committed) (commands_of k.found))
            ∙ sym (append_assoc (effects_of old.table x.commands) (effects_of between.table (commands_of k.committed)) (effects_of (fold_of between.table (commands_of k.committed)) (commands_of k.found))))))

    no_part : (old : NumberedTable) (p : C) → Part old old p p
    no_part old p = record { commands = []; table = refl; seq = omega arith; calls = []; given = refl; part = refl }

    all_parts : (lives : List CoreLife) (first old new : NumberedTable) (p o q : C) → Part first old p o → HaveDecided effects call lives old new o q → Part first new p q
    all_parts [] first old new p o q x same = subst (λ (s : NumberedTable × C). Part first s.0 p s.1) same x
    all_parts (life ∷ lives) first old new p o q x (next, k, rest) =
        all_parts lives first next.0 new p next.1 q (one_life_more life.coming.items first old next.0 p o next.1 x k) rest

    pub in_all : ((t : TableState) (marks : List Mark) (commands : List Command) → HasUsedUp t marks → HasUsedUp (fold_of t commands) (marks ++ marks_of (effects_of t commands)))
        → ((t : TableState) (marks : List Mark) (all left : List Effect) → IsSubsequence left all → HasUsedUp t (marks ++ marks_of all) → HasUsedUp t (marks ++ marks_of left))
        → (lives : List CoreLife) (old new : NumberedTable) (p q : C) → HaveDecided effects call lives old new p q → LeaveInAll effects call old new p q
    in_all after what_left lives old new p q decided =
        let x = all_parts lives old old new p p q (no_part old p) decided in
        record {
          commands = x.commands;
          table = x.table;
          seq = x.seq;
          calls = x.calls;
          given = x.given;
          part = x.part;
          used = λ marks before.
              subst (λ t. HasUsedUp t (marks ++ marks_of (flat_map effects x.calls))) (sym x.table)
              (what_left (fold_of old.table x.commands) marks (effects_of old.table x.commands) (flat_map effects x.calls) x.part (after old.table marks x.commands before));
        }
