-- A test of every number below a bound, by computing.
use Rattle.std.proofs.Common.{◌≡◌, ℕ, zero, suc, ◌<◌, Bool, true, false, ◌&&◌, eqb, refl, arith, inl, inr}
use Rattle.std.proofs.lemmas.Bool.{and_parts, cases_eq, eqb-true}

-- the test passes at each number below n
unfoldable pub all_below : (ℕ → Bool) → ℕ → Bool
all_below test zero = true
all_below test (suc n) = test n && all_below test n

pub all_below-at : (test : ℕ → Bool) (n : ℕ) → all_below test n ≡ true → (k : ℕ) → k < n → test k ≡ true
unfolding all_below
all_below-at test zero h k low = absurd (omega arith)
all_below-at test (suc n) h k low =
    let both = and_parts (test n) (all_below test n) h in
    elim (cases_eq k n) [ inl same ↦ rw same both.0 | inr other ↦ all_below-at test n both.1 k (omega arith) ]

-- two functions that agree below n by a test
pub agree_below : (f g : ℕ → ℕ) (n : ℕ) → all_below (λ k. eqb (f k) (g k)) n ≡ true → (k : ℕ) → k < n → f k ≡ g k
agree_below f g n h k low = eqb-true (f k) (g k) (all_below-at (λ k. eqb (f k) (g k)) n h k low)
