-- Lists of which some elements were dropped.
use Rattle.std.proofs.Common.{inl, inr, List, [], ◌∷◌, ◌++◌, ap, subst, sym, refl}
use Rattle.sessions.specs.Marks.{IsSubsequence}

nothing : {A : Type 0} (ys : List A) → IsSubsequence [] ys
nothing [] = refl
nothing (y ∷ ys) = inl (nothing ys)

whole : {A : Type 0} (ys : List A) → IsSubsequence ys ys
whole [] = refl
whole (y ∷ ys) = inr (ys, refl, whole ys)

-- a part of a list is a part of a longer list
pub longer : {A : Type 0} (xs ys zs : List A) → IsSubsequence xs ys → IsSubsequence xs (ys ++ zs)
longer xs [] zs h = subst (λ xs. IsSubsequence xs zs) (sym h) (nothing zs)
longer xs (y ∷ ys) zs (inl h) = inl (longer xs ys zs h)
longer xs (y ∷ ys) zs (inr (rest, is, h)) = inr (rest, is, longer rest ys zs h)

-- and stays one if the same elements are added after both
pub extended : {A : Type 0} (xs ys zs : List A) → IsSubsequence xs ys → IsSubsequence (xs ++ zs) (ys ++ zs)
extended xs [] zs h = subst (λ l. IsSubsequence l zs) (sym (ap (λ l. l ++ zs) h)) (whole zs)
extended xs (y ∷ ys) zs (inl h) = inl (extended xs ys zs h)
extended xs (y ∷ ys) zs (inr (rest, is, h)) = inr (rest ++ zs, ap (λ l. l ++ zs) is, extended rest ys zs h)
