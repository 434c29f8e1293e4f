-- The best copy of a frame, by the order of copies.
use Rattle.std.proofs.Common.{◌≡◌, ℕ, zero, suc, ◌<◌, ◌≤◌, List, [], ◌∷◌, Bool, true, false, Some, length, get_or, sym, ap, subst, refl, ◌∙◌, arith, inl, inr, ◌⊎◌}
use Rattle.std.specs.Prelude.{◌<ℤ◌, ℤ, IsTrue, All, Contains, MatchOption, if◌then◌else◌}
use Rattle.std.proofs.lemmas.Int.{ints}
use Rattle.std.proofs.lemmas.Bool.{cases_lt, false≢true}
use Rattle.std.proofs.lemmas.Bool.Decides.{nat_tests}
use Rattle.std.proofs.lemmas.List.{get_or_default}
use Rattle.std.proofs.lemmas.List.Elements.{All-cons, All-head, All-tail, All-nil, All-contains, All-weaker}
use Rattle.std.proofs.lemmas.Option.{none-some, same_Some}
use Rattle.devices.specs.declared.heard.Hearing.{Hearing}
use Rattle.devices.specs.Heard.{gateway_of, best_of, best_with, better_of, is_better, AreApart, AreHearings, IsBest, IsBetter, IsReceivable}

pub better_is : (a b : Hearing) → IsTrue (is_better a b) → IsBetter a b
better_is a b h = grind (arith, ints, nat_tests)

pub is_better_of : (a b : Hearing) → IsBetter a b → IsTrue (is_better a b)
is_better_of a b h = grind (arith, ints, nat_tests)

-- the numbers of one copy make it as good as another
abbrev RssiAsGood : (p q : ℤ) (g k : ℕ) → Type 0
RssiAsGood p q g k = (q <ℤ p) ⊎ (p ≡ q) × (g ≤ k)

abbrev AsGood : Hearing → Hearing → Type 0
AsGood a b =
    (b.reception.snr <ℤ a.reception.snr)
    ⊎ (a.reception.snr ≡ b.reception.snr) × RssiAsGood a.reception.rssi b.reception.rssi (gateway_of a) (gateway_of b)

as_good : (a b : Hearing) → is_better b a ≡ false → AsGood a b
as_good a b h = grind (arith, ints, nat_tests)

not_better : (a b : Hearing) → AsGood a b → is_better b a ≡ false
not_better a b h = grind (arith, ints, nat_tests)

rssi_along : (p q r : ℤ) (g k l : ℕ) → RssiAsGood p q g k → RssiAsGood q r k l → RssiAsGood p r g l
rssi_along p q r g k l h i =
    elim h [
      | inl above ↦ elim i [ inl more ↦ inl (omega (arith, ints)) | inr same ↦ inl (omega (arith, ints)) ]
      | inr even ↦ elim i [ inl more ↦ inl (omega (arith, ints)) | inr same ↦ inr (even.0 ∙ same.0, omega arith) ]
    ]

along : (a b c : Hearing) → AsGood a b → AsGood b c → AsGood a c
along a b c h i =
    elim h [
      | inl above ↦ elim i [ inl more ↦ inl (omega (arith, ints)) | inr same ↦ inl (omega (arith, ints)) ]
      | inr even ↦
          elim i [
            | inl more ↦ inl (omega (arith, ints))
            | inr same ↦ inr (even.0 ∙ same.0, rssi_along _ _ _ _ _ _ even.1 same.1)
          ]
    ]

as_itself : (a : Hearing) → AsGood a a
as_itself a = inr (refl, inr (refl, omega arith))

-- a copy that is better is at least as good
as_better : (a b : Hearing) → is_better a b ≡ true → AsGood a b
as_better a b h = grind (arith, ints, nat_tests)

-- the better one of two copies is at least as good as both, and is one of them
record IsBetterOne (a b best : Hearing) : Type 0 where
  one : (best ≡ a) ⊎ (best ≡ b)
  first : AsGood best a
  second : AsGood best b

truth : (t : Bool) → (t ≡ true) ⊎ (t ≡ false)
truth true = inl refl
truth false = inr refl

better_one : (a b : Hearing) → IsBetterOne a b (better_of a b)
better_one a b =
    elim (truth (is_better b a)) [
      | inl greater ↦ subst (λ (t : Bool). IsBetterOne a b (if t then b else a)) (sym greater) (record { one = inr refl; first = as_better b a greater; second = as_itself b })
      | inr lesser ↦ subst (λ (t : Bool). IsBetterOne a b (if t then b else a)) (sym lesser) (record { one = inl refl; first = as_itself a; second = as_good a b lesser })
    ]

here : (x : Hearing) (xs : List Hearing) (y : Hearing) → y ≡ x → Contains (x ∷ xs) y
here x xs y e = (0, omega arith, sym e)

there : (x : Hearing) (xs : List Hearing) (y : Hearing) → Contains xs y → Contains (x ∷ xs) y
there x xs y c = (suc c.0, omega (arith, c.1), c.2)

head_or_tail : (x : Hearing) (xs : List Hearing) (y : Hearing) → Contains (x ∷ xs) y → (y ≡ x) ⊎ Contains xs y
head_or_tail x xs y c = at c.0 c.1 c.2
  where
    at : (k : ℕ) → k < length (x ∷ xs) → get_or (x ∷ xs) k y ≡ y → (y ≡ x) ⊎ Contains xs y
    at zero lt e = inl (sym e)
    at (suc k) lt e = inr (k, omega arith, e)

-- one of these copies, at least as good as each
record IsOfBest (hearings : List Hearing) (best : Hearing) : Type 0 where
  one : Contains hearings best
  good : All (AsGood best) hearings

best_with_is : (b : Hearing) (hs : List Hearing) → IsOfBest (b ∷ hs) (best_with b hs)
best_with_is b [] = record { one = here b [] b refl; good = All-cons (AsGood b) b [] (as_itself b) (All-nil (AsGood b)) }
best_with_is b (h ∷ hs) =
    let n : Hearing = better_of b h in
    let r : Hearing = best_with n hs in
    let w : IsBetterOne b h n = better_one b h in
    let i : IsOfBest (n ∷ hs) r = best_with_is n hs in
    let top : AsGood r n = All-head (AsGood r) n hs i.good in
    record {
      one =
          elim (head_or_tail n hs r i.one) [
            | inl new ↦
                elim w.one [
                  | inl e ↦ here b (h ∷ hs) r (new ∙ e)
                  | inr e ↦ there b (h ∷ hs) r (here h hs r (new ∙ e))
                ]
            | inr old ↦ there b (h ∷ hs) r (there h hs r old)
          ];
      good = All-cons (AsGood r) b (h ∷ hs) (along r n b top w.first) (All-cons (AsGood r) h hs (along r n h top w.second) (All-tail (AsGood r) n hs i.good));
    }

none_better : (r h : Hearing) → AsGood r h → ¬ (IsBetter h r)
none_better r h good better = false≢true (sym (not_better r h good) ∙ is_better_of h r better)

pub best_is : (hs : List Hearing) → MatchOption (best_of hs) (hs ≡ []) (λ best. IsBest hs best)
best_is [] = refl
best_is (h ∷ hs) =
    let r : Hearing = best_with h hs in
    let i : IsOfBest (h ∷ hs) r = best_with_is h hs in
    record { one = i.one; greatest = All-weaker (AsGood r) (λ x. ¬ (IsBetter x r)) (none_better r) (h ∷ hs) i.good }

one_gateway : (a b : Hearing) → AsGood a b → ¬ (IsBetter a b) → gateway_of a ≡ gateway_of b
one_gateway a b good none = grind (arith, ints, nat_tests)

-- two copies from one gateway are the same copy
one_copy : (hs : List Hearing) (a b : Hearing) → AreApart hs → Contains hs a → Contains hs b → gateway_of a ≡ gateway_of b → a ≡ b
one_copy hs a b apart at_a at_b e =
    let j : ℕ = at_a.0 in
    let k : ℕ = at_b.0 in
    let a_is : get_or hs j b ≡ a = get_or_default hs j b a at_a.1 ∙ at_a.2 in
    let b_is : get_or hs k b ≡ b = at_b.2 in
    let same : gateway_of (get_or hs j b) ≡ gateway_of (get_or hs k b) = ap gateway_of a_is ∙ e ∙ sym (ap gateway_of b_is) in
    elim (cases_lt j k) [
      | inl before ↦ absurd (apart j k b before at_b.1 same)
      | inr not_before ↦
          elim (cases_lt k j) [
            | inl behind ↦ absurd (apart k j b behind at_a.1 (sym same))
            | inr not_behind ↦
                let place : j ≡ k = omega arith in
                sym a_is ∙ ap (λ n. get_or hs n b) place ∙ b_is
          ]
    ]

pub only_best : (hs : List Hearing) (h : Hearing) → AreApart hs → IsBest hs h → best_of hs ≡ Some h
only_best [] h apart best = absurd (omega (arith, best.one.1))
only_best (x ∷ xs) h apart best =
    let r : Hearing = best_with x xs in
    let i : IsOfBest (x ∷ xs) r = best_with_is x xs in
    let good : AsGood r h = All-contains (AsGood r) (x ∷ xs) h i.good best.one in
    let none : ¬ (IsBetter r h) = All-contains (λ y. ¬ (IsBetter y h)) (x ∷ xs) r best.greatest i.one in
    ap Some (one_copy (x ∷ xs) r h apart i.one best.one (one_gateway r h good none))

-- the best copy was heard on a channel, as all were
pub best_receivable : (hs : List Hearing) (b : Hearing) → AreHearings hs → Some b ≡ best_of hs → IsReceivable b.reception
best_receivable [] b hearings is = absurd (none-some b (sym is))
best_receivable (x ∷ xs) b hearings is =
    let best : best_with x xs ≡ b = same_Some (best_with x xs) b (sym is) in
    let among : Contains (x ∷ xs) (best_with x xs) = (best_with_is x xs).one in
    subst (λ (h : Hearing). IsReceivable h.reception) best
    (All-contains (λ h. IsReceivable h.reception) (x ∷ xs) (best_with x xs) hearings.receivable among)
