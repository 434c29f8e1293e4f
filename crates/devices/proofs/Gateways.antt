-- The copies of a frame, tested one after another.
use Rattle.std.proofs.Common.{◌≡◌, ℕ, ◌+◌, ◌<◌, ◌≤◌, List, length, take, get_or, sym, ap, subst, ◌∙◌, arith, inl, inr}
use Rattle.std.specs.Prelude.{Any}
use Rattle.std.proofs.lemmas.Bool.{cases_lt}
use Rattle.std.proofs.lemmas.List.{get_or-take, get_or_default, length-take-le}
use Rattle.devices.specs.declared.heard.Hearing.{Hearing}
use Rattle.devices.specs.Heard.{gateway_of, AreApart, IsReceivable}

-- no copy before place i is from the gateway of an earlier one
abbrev pub ApartBelow : List Hearing → ℕ → Type 0
ApartBelow xs i = (d : Hearing) (j : ℕ) → j < i → (k : ℕ) → k < j → gateway_of (get_or xs k d) ≡ gateway_of (get_or xs j d) → ⊥

pub apart_none : (xs : List Hearing) → ApartBelow xs 0
apart_none xs d j lt k less e = omega arith

pub apart_all : (xs : List Hearing) (n : ℕ) → length xs ≤ n → ApartBelow xs n → AreApart xs
apart_all xs n le below = λ i j d lt within e. below d j (omega arith) i lt e

-- a copy from this gateway comes before place i
abbrev pub StandsBefore : List Hearing → ℕ → ℕ → Type 0
StandsBefore xs i gateway = Any (λ h. gateway_of h ≡ gateway) (take i xs)

pub apart_more : (xs : List Hearing) (i gateway : ℕ) → i < length xs → ((d : Hearing) → gateway_of (get_or xs i d) ≡ gateway) → ApartBelow xs i → (StandsBefore xs i gateway → ⊥) → ApartBelow xs (i + 1)
apart_more xs i gateway within is below none d j lt k less e =
    elim (cases_lt j i) [
      | inl before ↦ below d j before k less e
      | inr at ↦
          let here : j ≡ i = omega arith in
          let y : Hearing = get_or xs k d in
          let front : k < length (take i xs) = omega (arith, length-take-le i xs (omega arith)) in
          let same : get_or (take i xs) k y ≡ y = get_or-take i xs k y (omega arith) ∙ get_or_default xs k y d (omega arith) in
          let of_it : gateway_of y ≡ gateway = e ∙ ap (λ n. gateway_of (get_or xs n d)) here ∙ is d in
          none (k, y, front, same, of_it)
    ]

pub not_apart : (xs : List Hearing) (i gateway : ℕ) → i < length xs → ((d : Hearing) → gateway_of (get_or xs i d) ≡ gateway) → StandsBefore xs i gateway → AreApart xs → ⊥
not_apart xs i gateway within is any apart =
    let k = any.0 in
    let y = any.1 in
    let front = any.2 in
    let lt : k < i = omega (arith, length-take-le i xs (omega arith)) in
    let same : get_or xs k y ≡ y = sym (get_or-take i xs k y lt) ∙ any.3 in
    apart k i y lt within (ap gateway_of same ∙ any.4 ∙ sym (is y))

-- each copy before place i has a reception in range
abbrev pub ReceivableBelow : List Hearing → ℕ → Type 0
ReceivableBelow xs i = (d : Hearing) (k : ℕ) → k < i → IsReceivable (get_or xs k d).reception

pub receivable_none : (xs : List Hearing) → ReceivableBelow xs 0
receivable_none xs d k lt = absurd (omega arith)

pub receivable_more : (xs : List Hearing) (i : ℕ) (x : Hearing) → i < length xs → ((d : Hearing) → get_or xs i d ≡ x) → ReceivableBelow xs i → IsReceivable x.reception → ReceivableBelow xs (i + 1)
receivable_more xs i x within is below here d k lt =
    elim (cases_lt k i) [
      | inl before ↦ below d k before
      | inr at ↦
          let place : i ≡ k = omega arith in
          let same : x ≡ get_or xs k d = sym (is d) ∙ ap (λ n. get_or xs n d) place in
          subst (λ (h : Hearing). IsReceivable h.reception) same here
    ]
