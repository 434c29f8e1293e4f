-- What is earned between payments.
use Rattle.std.proofs.Common.{◌≡◌, ◌<◌, ◌≤◌, ◌+◌, ◌-◌, ◌*◌, ℕ, List, [], ◌∷◌, ap, arith, ◌⊎◌, inl, inr}
use Rattle.std.specs.Prelude.{max}
use Rattle.std.specs.Int.{div_ceil}
use Rattle.std.proofs.lemmas.Grind.{div_ceil_times}
use Rattle.lnsd_links.specs.declared.allowance.Allowance.{Allowance}
use Rattle.lnsd_links.specs.Allowed.{allowance_at, copies_of, ArePaid, IsFirstMoment, IsPaid}

-- time goes on, and each millisecond earns the same
earns : (a b c r : ℕ) → a ≤ b → b ≤ c → (b - a) * r + (c - b) * r ≡ (c - a) * r
earns a b c r ab bc =
    let whole : (b - a) + (c - b) ≡ c - a = omega (arith, ab, bc) in
    grind (arith, whole)

-- after one payment
pub paid_once : (copies now : ℕ) (old new : Allowance) → IsPaid copies now old new
    → (copies * 1000 + new.level ≤ old.level + (new.at - old.at) * old.per_second)
    × ((old.at ≤ new.at) × (new.per_second ≡ old.per_second))
paid_once copies now old new paid =
    let level : new.level ≡ allowance_at old now - copies * 1000 = ap (λ (a : Allowance). a.level) paid.1 in
    let at : new.at ≡ max old.at now = ap (λ (a : Allowance). a.at) paid.1 in
    let rate : new.per_second ≡ old.per_second = ap (λ (a : Allowance). a.per_second) paid.1 in
    let later : now - old.at ≡ new.at - old.at = omega (arith, at) in
    let time : (now - old.at) * old.per_second ≡ (new.at - old.at) * old.per_second = ap (λ (t : ℕ). t * old.per_second) later in
    (omega (arith, level, paid.0, time), (omega (arith, at), rate))

pub all_paid : (payments : List (ℕ × ℕ)) (old new : Allowance) → ArePaid payments old new
    → (copies_of payments * 1000 + new.level ≤ old.level + (new.at - old.at) * old.per_second)
    × (old.at ≤ new.at)
all_paid [] old new same =
    let level : new.level ≡ old.level = ap (λ (a : Allowance). a.level) same in
    let at : new.at ≡ old.at = ap (λ (a : Allowance). a.at) same in
    (omega (arith, level), omega (arith, at))
all_paid (payment ∷ payments) old new (next, (one, more)) =
    let first = paid_once payment.0 payment.1 old next one in
    let others = all_paid payments next new more in
    let rate : (new.at - next.at) * next.per_second ≡ (new.at - next.at) * old.per_second = ap (λ (r : ℕ). (new.at - next.at) * r) first.1.1 in
    let time = earns old.at next.at new.at old.per_second first.1.0 others.1 in
    (omega (arith, first.0, others.0, rate, time), omega (arith, first.1.0, others.1))

scaled : (m n r : ℕ) → m ≤ n → m * r ≤ n * r
scaled m n r less = grind (arith, less)

le_or_gt : (m n : ℕ) → (m ≤ n) ⊎ (n < m)
le_or_gt m n = grind arith

-- the first moment at which a price has been earned
pub first_moment : (copies price now moment : ℕ) (a : Allowance) → 0 < a.per_second
    → price ≤ copies * 1000 → (copies ≤ a.burst → price ≡ copies * 1000) → allowance_at a now < price
    → moment ≡ a.at + div_ceil (price - a.level) a.per_second
    → IsFirstMoment copies a moment
first_moment copies price now moment a rate few whole lacks is =
    record {
      comes = λ small. omega (arith, whole small, bounds.0, is, lacks, spent);
      before = sooner;
    }
  where
    wait : ℕ
    wait = div_ceil (price - a.level) a.per_second

    bounds : (price - a.level ≤ wait * a.per_second) × (wait * a.per_second < (price - a.level) + a.per_second)
    bounds = div_ceil_times (price - a.level) a.per_second rate

    spent : (moment - a.at) * a.per_second ≡ wait * a.per_second
    spent = ap (λ (t : ℕ). t * a.per_second) (omega (arith, is))

    step : (e : ℕ) → e + 1 ≤ wait → e * a.per_second + a.per_second ≤ wait * a.per_second
    step e less =
        let one_more : (e + 1) * a.per_second ≡ e * a.per_second + a.per_second = grind arith in
        omega (arith, one_more, scaled (e + 1) wait a.per_second less)

    sooner : (earlier : ℕ) → earlier < moment → allowance_at a earlier < copies * 1000
    sooner earlier soon = go (le_or_gt (earlier - a.at + 1) wait)
      where
        go : (earlier - a.at + 1 ≤ wait) ⊎ (wait < earlier - a.at + 1) → allowance_at a earlier < copies * 1000
        go (inl less) = omega (arith, step (earlier - a.at) less, bounds.1, lacks, few, bounds.0)
        go (inr more) =
            let none : wait ≡ 0 = omega (arith, more, soon, is) in
            let no_time : earlier - a.at ≡ 0 = omega (arith, none, soon, is) in
            let nothing : wait * a.per_second ≡ 0 * a.per_second = ap (λ (t : ℕ). t * a.per_second) none in
            let earned : (earlier - a.at) * a.per_second ≡ 0 * a.per_second = ap (λ (t : ℕ). t * a.per_second) no_time in
            omega (arith, nothing, earned, bounds.0, lacks, few)
