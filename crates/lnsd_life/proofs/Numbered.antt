-- Lists whose elements have the numbers of their places.
use Rattle.std.proofs.Common.{◌≡◌, ◌++◌, ◌∷◌, ◌⊎◌, ◌∙◌, ℕ, zero, suc, List, [], Option, Some, None, ap, inl, inr, length, map, refl, subst, sym}
use Rattle.std.specs.Prelude.{slice_get}
use Rattle.std.specs.Option.{option_map}
use Rattle.std.proofs.lemmas.Option.{none-some, slice_get-map}

-- an element of a longer list is one of the shorter list, or the last
got_of_push : {T : Type 0} (xs : List T) (x : T) (n : ℕ) (y : T) → slice_get (xs ++ x ∷ []) n ≡ Some y
    → (slice_get xs n ≡ Some y) ⊎ ((n ≡ length xs) × (Some x ≡ Some y))
got_of_push [] x zero y e = inr (refl, e)
got_of_push [] x (suc n) y e = absurd (none-some y e)
got_of_push (z ∷ zs) x zero y e = inl e
got_of_push (z ∷ zs) x (suc n) y e =
    elim (got_of_push zs x n y e) [
      | inl got ↦ inl got
      | inr (last, same) ↦ inr (ap suc last, same)
    ]

abbrev number_or : {T : Type 0} → (T → ℕ) → Option T → ℕ
number_or number None = 0
number_or number (Some x) = number x

pub one_number_more : {T : Type 0} (number : T → ℕ) (xs all : List T) (x : T)
    → ((n : ℕ) (y : T) → slice_get xs n ≡ Some y → number y ≡ n)
    → number x ≡ length xs → all ≡ xs ++ x ∷ []
    → (n : ℕ) (y : T) → slice_get all n ≡ Some y → number y ≡ n
one_number_more {T} number xs all x are is pushed n y got =
    elim (got_of_push xs x n y (subst (λ (l : List T). slice_get l n ≡ Some y) pushed got)) [
      | inl before ↦ are n y before
      | inr (last, same) ↦ sym (ap (number_or number) same) ∙ (is ∙ sym last)
    ]

-- a list with the same numbers
pub numbered_alike : {A B : Type 0} (f : A → ℕ) (g : B → ℕ) (xs : List A) (ys : List B) → map f xs ≡ map g ys
    → ((n : ℕ) (y : B) → slice_get ys n ≡ Some y → g y ≡ n)
    → (n : ℕ) (x : A) → slice_get xs n ≡ Some x → f x ≡ n
numbered_alike {A} {B} f g xs ys alike are n x got = go (slice_get ys n) refl
  where
    found : slice_get (map f xs) n ≡ Some (f x)
    found = slice_get-map f xs n ∙ ap (option_map f) got

    there : option_map g (slice_get ys n) ≡ Some (f x)
    there = sym (slice_get-map g ys n) ∙ (sym (ap (λ (l : List ℕ). slice_get l n) alike) ∙ found)

    go : (o : Option B) → slice_get ys n ≡ o → f x ≡ n
    go None e = absurd (none-some (f x) (sym (ap (option_map g) e) ∙ there))
    go (Some y) e = sym (ap (number_or (λ k. k)) (sym (ap (option_map g) e) ∙ there)) ∙ are n y e
