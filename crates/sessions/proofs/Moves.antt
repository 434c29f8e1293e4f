-- How a change of state changes the marks that the states cover, one change after another.
use Rattle.std.proofs.Common.{◌≡◌, ◌≢◌, List, [], ◌∷◌, ◌++◌, Option, Some, None, refl, ap, subst}
use Rattle.std.specs.List.{AllByRecursion}
use Rattle.devices.specs.declared.effect.Effect.{Effect}
use Rattle.devices.specs.declared.mark.Mark.{Mark}
use Rattle.devices.specs.Mark.{mark_of}
use Rattle.sessions.specs.Marks.{AreDistinct, marks_of}

-- these marks are used up from one state to the next: covered marks stay covered, none of these was
-- covered before, all of them are covered now, and none occurs twice
pub record Moves {S : Type 0} (Covers : S → Mark → Type 0) (before after : S) (marks : List Mark) : Type 0 where
  pub keeps : (m : Mark) → Covers before m → Covers after m
  pub fresh : AllByRecursion (λ m. Covers before m → ⊥) marks
  pub covered : AllByRecursion (λ m. Covers after m) marks
  pub distinct : AreDistinct marks

-- ---- what holds of each mark

pub all_then : (P Q : Mark → Type 0) (ms : List Mark) → ((m : Mark) → P m → Q m) → AllByRecursion P ms → AllByRecursion Q ms
all_then P Q [] then all = tt
all_then P Q (m ∷ ms) then all = (then m all.0, all_then P Q ms then all.1)

pub all_both : (P Q R : Mark → Type 0) (ms : List Mark) → ((m : Mark) → P m → Q m → R m)
    → AllByRecursion P ms → AllByRecursion Q ms → AllByRecursion R ms
all_both P Q R [] both ps qs = tt
all_both P Q R (m ∷ ms) both ps qs = (both m ps.0 qs.0, all_both P Q R ms both ps.1 qs.1)

pub all_append : (P : Mark → Type 0) (first second : List Mark) → AllByRecursion P first → AllByRecursion P second → AllByRecursion P (first ++ second)
all_append P [] second one two = two
all_append P (m ∷ first) second one two = (one.0, all_append P first second one.1 two)

-- a mark with a property isn't among marks without it
differs : (P : Mark → Type 0) (m : Mark) (ms : List Mark) → P m → AllByRecursion (λ n. P n → ⊥) ms → AllByRecursion (λ n. m ≢ n) ms
differs P m ms holds others = all_then (λ n. P n → ⊥) (λ n. m ≢ n) ms (λ n other same. other (subst P same holds)) others

-- marks with a property, and then marks without it
pub distinct_append : (P : Mark → Type 0) (first second : List Mark) → AllByRecursion P first → AllByRecursion (λ m. P m → ⊥) second
    → AreDistinct first → AreDistinct second → AreDistinct (first ++ second)
distinct_append P [] second hold others one two = two
distinct_append P (m ∷ first) second hold others one two = (
  all_append (λ n. m ≢ n) first second one.0 (differs P m second hold.0 others),
  distinct_append P first second hold.1 others one.1 two,
)

-- ---- rules

-- nothing has changed
pub moves_nowhere : {S : Type 0} (Covers : S → Mark → Type 0) (s : S) → Moves Covers s s []
moves_nowhere Covers s = record { keeps = λ m h. h; fresh = tt; covered = tt; distinct = tt }

-- the marks were not used up
pub moves_unmarked : {S : Type 0} (Covers : S → Mark → Type 0) (before after : S) (marks : List Mark)
    → Moves Covers before after marks → Moves Covers before after []
moves_unmarked Covers before after marks moves = record { keeps = moves.keeps; fresh = tt; covered = tt; distinct = tt }

-- one change and then another
pub moves_then : {S : Type 0} (Covers : S → Mark → Type 0) (before between after : S) (first second : List Mark)
    → Moves Covers before between first → Moves Covers between after second → Moves Covers before after (first ++ second)
moves_then Covers before between after first second one two =
    record {
      keeps = λ m h. two.keeps m (one.keeps m h);
      fresh = all_append (λ m. Covers before m → ⊥) first second one.fresh
          (all_then (λ m. Covers between m → ⊥) (λ m. Covers before m → ⊥) second (λ m uncovered h. uncovered (one.keeps m h)) two.fresh);
      covered = all_append (λ m. Covers after m) first second
          (all_then (λ m. Covers between m) (λ m. Covers after m) first two.keeps one.covered) two.covered;
      distinct = distinct_append (λ m. Covers between m) first second one.covered two.fresh one.distinct two.distinct;
    }

-- ---- the marks of effects

more_marks : (mark : Option Mark) (effect : Effect) (effects more : List Effect) → mark_of effect ≡ mark
    → marks_of (effects ++ more) ≡ marks_of effects ++ marks_of more
    → marks_of ((effect ∷ effects) ++ more) ≡ marks_of (effect ∷ effects) ++ marks_of more
more_marks None effect effects more is h = rw is h
more_marks (Some mark) effect effects more is h = rw is (ap (λ (ms : List Mark). mark ∷ ms) h)

pub marks_of-append : (effects more : List Effect) → marks_of (effects ++ more) ≡ marks_of effects ++ marks_of more
marks_of-append [] more = refl
marks_of-append (effect ∷ effects) more = more_marks (mark_of effect) effect effects more refl (marks_of-append effects more)
