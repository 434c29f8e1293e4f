-- What is found in a list after some of its elements were removed.
use Rattle.std.proofs.Common.{◌≡◌, ◌≤◌, ◌<◌, ◌∷◌, List, [], None, Bool, true, false, refl, arith, sym, ◌∙◌, length}
use Rattle.std.specs.List.{filter, find}
use Rattle.std.proofs.lemmas.Bool.{false≢true}

-- no removed element is one that is looked for
pub found_still : {X : Type 0} (p q : X → Bool) → ((x : X) → p x ≡ true → q x ≡ true) → (xs : List X)
    → find p (filter q xs) ≡ find p xs
found_still p q keeps [] = refl
found_still {X} p q keeps (x ∷ xs) = go (found_still p q keeps xs) (p x) (q x) refl refl
  where
    go : find p (filter q xs) ≡ find p xs → (b c : Bool) → p x ≡ b → q x ≡ c → find p (filter q (x ∷ xs)) ≡ find p (x ∷ xs)
    go more true true e f = rw f (rw e refl)
    go more true false e f = absurd (false≢true (sym f ∙ keeps x e))
    go more false true e f = rw f (rw e more)
    go more false false e f = rw f (rw e more)

-- every element that is looked for is removed
pub found_no_more : {X : Type 0} (p q : X → Bool) → ((x : X) → p x ≡ true → q x ≡ false) → (xs : List X)
    → find p (filter q xs) ≡ None
found_no_more p q loses [] = refl
found_no_more {X} p q loses (x ∷ xs) = go (found_no_more p q loses xs) (p x) (q x) refl refl
  where
    go : find p (filter q xs) ≡ None → (b c : Bool) → p x ≡ b → q x ≡ c → find p (filter q (x ∷ xs)) ≡ None
    go more true true e f = absurd (false≢true (sym (loses x e) ∙ f))
    go more true false e f = rw f more
    go more false true e f = rw f (rw e more)
    go more false false e f = rw f more

-- fewer elements are left, if an element that is looked for was there
pub fewer : {X : Type 0} (p q : X → Bool) → ((x : X) → p x ≡ true → q x ≡ false) → (xs : List X)
    → (length (filter q xs) ≤ length xs) × (¬ (find p xs ≡ None) → length (filter q xs) < length xs)
fewer p q loses [] = (omega arith, λ some. absurd (some refl))
fewer {X} p q loses (x ∷ xs) = go (fewer p q loses xs) (p x) (q x) refl refl
  where
    go : (length (filter q xs) ≤ length xs) × (¬ (find p xs ≡ None) → length (filter q xs) < length xs) → (b c : Bool) → p x ≡ b → q x ≡ c
        → (length (filter q (x ∷ xs)) ≤ length (x ∷ xs)) × (¬ (find p (x ∷ xs) ≡ None) → length (filter q (x ∷ xs)) < length (x ∷ xs))
    go more true true e f = absurd (false≢true (sym (loses x e) ∙ f))
    go more b false e f = rw f (omega (arith, more.0), λ some. omega (arith, more.0))
    go more false true e f = rw f (rw e (omega (arith, more.0), λ some. let less = more.1 some in omega (arith, less)))
