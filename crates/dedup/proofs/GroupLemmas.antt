-- A copy that comes last goes into its group.
use Rattle.std.proofs.Common.{◌≡◌, ℕ, zero, suc, ◌+◌, ◌≤◌, Bool, true, false, cond, not, List, [], ◌∷◌, ◌++◌, length, map, filter, refl, ap, ◌∙◌, arith, bytes_eq, ◌&&◌}
use Rattle.std.specs.Prelude.{nat_lt}
use Rattle.std.proofs.lemmas.List.{append-nil, map-append, length-append}
use Rattle.std.proofs.lemmas.List.Elements.{filter-append}
use Rattle.std.proofs.lemmas.List.Sums.{length-filter, count_by-le-length}
use Rattle.devices.specs.declared.heard.Hearing.{Hearing}
use Rattle.dedup.specs.declared.TheConstants.{WAIT}
use Rattle.dedup.specs.Groups.{Arrival, is_in_group, first_groups, groups}
use Rattle.dedup.specs.Windows.{Window, window_of_group, hearing_of, with_hearings}

-- whether the window takes the arrival: it comes before the wait is over, with the same bytes
abbrev pub takes : Window → Arrival → Bool
takes w a = nat_lt a.at (w.opened + WAIT) && bytes_eq a.copy.phy_payload w.phy_payload

-- the first window that takes the arrival also has its copy; if no window takes it, it opens one at
-- the end
abbrev pub with_arrival : List Window → Arrival → List Window
with_arrival [] a = window_of_group (a ∷ []) ∷ []
with_arrival (w ∷ ws) a = cond (takes w a) (with_hearings w (w.hearings ++ hearing_of a.copy ∷ []) ∷ ws) (w ∷ with_arrival ws a)

abbrev others : Arrival → List Arrival → List Arrival
others first rest = filter (λ a. not (is_in_group first a)) rest

fewer : (first : Arrival) (rest : List Arrival) → length (others first rest) ≤ length rest
fewer first rest = omega (arith, length-filter (λ a. not (is_in_group first a)) rest, count_by-le-length (λ a. not (is_in_group first a)) rest)

-- asking for more groups than there are copies gives no more groups
enough : (n : ℕ) (arrivals : List Arrival) → length arrivals ≤ n → first_groups (suc n) arrivals ≡ first_groups n arrivals
enough zero [] le = refl
enough zero (first ∷ rest) le = absurd (omega arith)
enough (suc n) [] le = refl
enough (suc n) (first ∷ rest) le =
    let few : length (others first rest) ≤ n = omega (arith, fewer first rest) in
    ap (λ gs. (first ∷ filter (is_in_group first) rest) ∷ gs) (enough n (others first rest) few)

abbrev OneMore : ℕ → List Arrival → Arrival → Type 0
OneMore n arrivals a = map window_of_group (first_groups (suc n) (arrivals ++ a ∷ [])) ≡ with_arrival (map window_of_group (first_groups n arrivals)) a

-- the first group and the groups after it, depending on whether the last copy joins the first
by_joining : (first : Arrival) (rest : List Arrival) (a : Arrival) (n : ℕ) → length rest ≤ n → OneMore n (others first rest) a → (b : Bool) → is_in_group first a ≡ b
    → window_of_group (first ∷ (filter (is_in_group first) rest ++ cond b (a ∷ []) [])) ∷ map window_of_group (first_groups (suc n) (others first rest ++ cond (not b) (a ∷ []) []))
    ≡ cond b (with_hearings (window_of_group (first ∷ filter (is_in_group first) rest)) ((window_of_group (first ∷ filter (is_in_group first) rest)).hearings ++ hearing_of a.copy ∷ []) ∷ map window_of_group (first_groups n (others first rest))) (window_of_group (first ∷ filter (is_in_group first) rest) ∷ with_arrival (map window_of_group (first_groups n (others first rest))) a)
by_joining first rest a n le more true e =
    let own = filter (is_in_group first) rest in
    let left = others first rest in
    let few : length left ≤ n = omega (arith, fewer first rest) in
    let h : Arrival → Hearing = λ x. hearing_of x.copy in
    ap (λ o. window_of_group (first ∷ (own ++ a ∷ [])) ∷ map window_of_group (first_groups (suc n) o)) (append-nil left)
    ∙ ap (λ gs. window_of_group (first ∷ (own ++ a ∷ [])) ∷ map window_of_group gs) (enough n left few)
    ∙ ap (λ hs. with_hearings (window_of_group (first ∷ own)) hs ∷ map window_of_group (first_groups n left)) (map-append h (first ∷ own) (a ∷ []))
by_joining first rest a n le more false e =
    ap (λ own. window_of_group (first ∷ own) ∷ map window_of_group (first_groups (suc n) (others first rest ++ a ∷ []))) (append-nil (filter (is_in_group first) rest))
    ∙ ap (λ ws. window_of_group (first ∷ filter (is_in_group first) rest) ∷ ws) more

one_more : (n : ℕ) (arrivals : List Arrival) (a : Arrival) → length arrivals ≤ n → OneMore n arrivals a
one_more zero [] a le = refl
one_more (suc n) [] a le = refl
one_more zero (first ∷ rest) a le = absurd (omega arith)
one_more (suc n) (first ∷ rest) a le =
    let few : length (others first rest) ≤ n = omega (arith, fewer first rest) in
    rw (filter-append (is_in_group first) rest (a ∷ []), filter-append (λ x. not (is_in_group first x)) rest (a ∷ []))
    (by_joining first rest a n (omega arith) (one_more n (others first rest) a few) (is_in_group first a) refl)

-- a copy that comes last goes into the window of its group
pub one_more_arrival : (arrivals : List Arrival) (a : Arrival) → map window_of_group (groups (arrivals ++ a ∷ [])) ≡ with_arrival (map window_of_group (groups arrivals)) a
one_more_arrival arrivals a =
    let n : length (arrivals ++ a ∷ []) ≡ suc (length arrivals) = omega (arith, length-append arrivals (a ∷ [])) in
    ap (λ k. map window_of_group (first_groups k (arrivals ++ a ∷ []))) n ∙ one_more (length arrivals) arrivals a (omega arith)
