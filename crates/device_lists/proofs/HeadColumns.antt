-- The columns of a head, read one after the other.
use Rattle.std.proofs.Common.{◌≡◌, ◌≢◌, ◌<◌, ℕ, zero, suc, List, [], ◌∷◌, ◌++◌, Option, None, Some, ap, sym, refl, subst, arith, map, length, get_or, true, false}
use Rattle.std.proofs.lemmas.Option.{none-some}
use Rattle.std.specs.List.{All, AllByRecursion, HoldsAt}
use Rattle.std.specs.Prelude.{MatchOption, is_some}
use Rattle.std.proofs.lemmas.Bool.{true≢false}
use Rattle.device_lists.specs.Columns.{IsUnder}
use Rattle.device_lists.specs.declared.column.Column.{Column}
use Rattle.csv.specs.Records.{field_at}
use Rattle.sessions.specs.Marks.{AreDistinct}

-- the field of a list after the first ones
pub field_after : {A : Type 0} (f : A → List ℕ) (xs : List A) (rest : List (List ℕ)) → field_at (map f xs ++ rest) (length xs) ≡ field_at rest 0
unfolding field_at
field_after f [] rest = refl
field_after f (x ∷ xs) rest = field_after f xs rest

-- one of the first ones
pub field_before : {A : Type 0} (f : A → List ℕ) (xs : List A) (rest : List (List ℕ)) (i : ℕ) (d : A) → i < length xs
    → field_at (map f xs ++ rest) i ≡ Some (f (get_or xs i d))
unfolding field_at
field_before f [] rest i d below = absurd (omega (arith, below))
field_before f (x ∷ xs) rest zero d below = refl
field_before f (x ∷ xs) rest (suc i) d below = field_before f xs rest i d (omega (arith, below))

-- a list whose first field is known
pub first_is : (rest : List (List ℕ)) (name : List ℕ) → field_at rest 0 ≡ Some name → (more : List (List ℕ)) × (rest ≡ name ∷ more)
unfolding field_at
first_is [] name e = absurd (none-some name e)
first_is (x ∷ more) name e = (more, ap (λ o. pick o ∷ more) e)
  where
    pick : Option (List ℕ) → List ℕ
    pick None = x
    pick (Some y) = y

pub nothing_is : (rest : List (List ℕ)) → field_at rest 0 ≡ None → rest ≡ []
unfolding field_at
nothing_is [] e = refl
nothing_is (x ∷ more) e = absurd (none-some x (sym e))

-- one column more
pub one_column_more : {A : Type 0} (f : A → List ℕ) (xs : List A) (x : A) (more : List (List ℕ))
    → map f xs ++ (f x ∷ more) ≡ map f (xs ++ x ∷ []) ++ more
one_column_more f [] x more = refl
one_column_more f (y ∷ xs) x more = ap (λ l. f y ∷ l) (one_column_more f xs x more)

push_all : {A : Type 0} (P : A → Type 0) (xs : List A) (x : A) → AllByRecursion P xs → P x → AllByRecursion P (xs ++ x ∷ [])
push_all P [] x all p = (p, tt)
push_all P (y ∷ xs) x all p = (all.0, push_all P xs x all.1 p)

pub distinct_push : {A : Type 0} (xs : List A) (x : A) → AreDistinct xs → All (λ y. y ≢ x) xs → AreDistinct (xs ++ x ∷ [])
distinct_push [] x distinct others = (tt, tt)
distinct_push (y ∷ xs) x distinct others = (
  push_all (λ z. y ≢ z) xs x distinct.0 (others 0 y (omega arith)),
  distinct_push xs x distinct.1 (λ k d below. others (suc k) d (omega (arith, below))),
)

-- the two cases of a place
pub found_at : (P : Type 0) (Q : ℕ → Type 0) (o : Option ℕ) → MatchOption o P Q → is_some o ≡ true → (i : ℕ) × Q i
found_at P Q None p e = absurd (true≢false (sym e))
found_at P Q (Some i) q e = (i, q)

pub not_found : (P : Type 0) (Q : ℕ → Type 0) (o : Option ℕ) → MatchOption o P Q → is_some o ≡ false → P
not_found P Q None p e = p
not_found P Q (Some i) q e = absurd (true≢false e)

field_there : (values : List (List ℕ)) (i : ℕ) → i < length values → field_at values i ≡ None → ⊥
unfolding field_at
field_there [] i below e = omega (arith, below)
field_there (x ∷ values) zero below e = none-some x (sym e)
field_there (x ∷ values) (suc i) below e = field_there values i (omega (arith, below)) e

-- the value at the place of a column
pub under_at : (column : Column) (head : List Column) (values : List (List ℕ)) (i : ℕ) (r : Option (List ℕ)) → i < length head
    → HoldsAt (λ c. c ≡ column) head i → length values ≡ length head → r ≡ field_at values i → IsUnder column head values r
under_at column head values i None below holds same is = absurd (field_there values i (omega (arith, below, same)) (sym is))
under_at column head values i (Some text) below holds same is = (i, below, holds, sym is)

-- a place in the same head
pub place_in : (column : Column) (xs ys : List Column) (o : Option ℕ) → xs ≡ ys
    → MatchOption o (All (λ c. c ≢ column) xs) (λ i. (i < length xs) × HoldsAt (λ c. c ≡ column) xs i)
    → MatchOption o (All (λ c. c ≢ column) ys) (λ i. (i < length ys) × HoldsAt (λ c. c ≡ column) ys i)
place_in column xs ys o same =
    subst (λ zs. MatchOption o (All (λ c. c ≢ column) zs) (λ i. (i < length zs) × HoldsAt (λ c. c ≡ column) zs i)) same
