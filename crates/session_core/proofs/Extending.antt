-- A history to which decisions are added.
use Rattle.std.proofs.Common.{◌≡◌, ◌≤◌, ◌+◌, ◌-◌, ◌∙◌, ℕ, zero, suc, List, [], ◌∷◌, ◌++◌, Some, drop, length, slice_get, refl, sym, ap, arith, append_assoc}
use Rattle.std.proofs.lemmas.List.{drop-append-le, length-drop}

-- from the place of an element on
pub from_place : {X : Type 0} (xs : List X) (n : ℕ) (x : X) → slice_get xs n ≡ Some x → drop n xs ≡ x ∷ drop (n + 1) xs
from_place [] n x got = absurd (cc got)
from_place (y ∷ xs) zero x got = let same : y ≡ x = cc got in ap (λ z. z ∷ xs) same
from_place (y ∷ xs) (suc n) x got =
    let next : suc (n + 1) ≡ suc n + 1 = omega arith in
    from_place xs n x got ∙ ap (λ i. x ∷ drop i (y ∷ xs)) next

-- one element more of a list is at the end of what was kept of its beginning
pub one_more_kept : {X : Type 0} (taken n : ℕ) (kept next log : List X) (x : X)
    → drop taken kept ++ drop n log ≡ log → taken ≤ length kept → slice_get log n ≡ Some x → next ≡ kept ++ x ∷ []
    → drop taken next ++ drop (n + 1) log ≡ log
one_more_kept {X} taken n kept next log x is within got added =
    let later : drop taken next ≡ drop taken kept ++ x ∷ [] = ap (drop taken) added ∙ drop-append-le taken kept (x ∷ []) within in
    ap (λ (l : List X). l ++ drop (n + 1) log) later
    ∙ (append_assoc (drop taken kept) (x ∷ []) (drop (n + 1) log)
    ∙ (ap (λ (l : List X). drop taken kept ++ l) (sym (from_place log n x got)) ∙ is))

-- at first what is lacked is the end
pub drop_joined : {X : Type 0} (xs ys : List X) → drop (length xs) (xs ++ ys) ≡ ys
drop_joined [] ys = refl
drop_joined (x ∷ xs) ys = drop_joined xs ys

pub lacked_at_first : {X : Type 0} (taken first : ℕ) (kept lacked log : List X) → taken ≤ length kept
    → log ≡ drop taken kept ++ lacked → first ≡ length kept - taken → drop taken kept ++ drop first log ≡ log
lacked_at_first {X} taken first kept lacked log within is at =
    let len : first ≡ length (drop taken kept) = at ∙ sym (length-drop taken kept) in
    ap (λ (l : List X). drop taken kept ++ l) (ap (λ i. drop i log) len ∙ (ap (drop (length (drop taken kept))) is ∙ drop_joined (drop taken kept) lacked))
    ∙ sym is

pub drop_all : {X : Type 0} (xs : List X) (n : ℕ) → length xs ≤ n → drop n xs ≡ []
drop_all [] zero all = refl
drop_all [] (suc n) all = refl
drop_all (x ∷ xs) zero all = absurd (omega arith)
drop_all (x ∷ xs) (suc n) all = let less : length xs ≤ n = omega arith in drop_all xs n less
