-- How fast copies may come on a link.
use Rattle.std.specs.Prelude.{◌≡◌, ◌<◌, ◌≤◌, ◌+◌, ◌-◌, ◌*◌, ℕ, List, [], ◌∷◌, max, min}
use Rattle.lnsd_links.specs.declared.allowance.Allowance.{Allowance}

-- The thousandths of a copy that may come at this moment: what was left, and what was earned in the
-- milliseconds since, but never more than the burst.
abbrev pub allowance_at : Allowance → ℕ → ℕ
allowance_at a now = min (a.level + (now - a.at) * a.per_second) (a.burst * 1000)

-- this number of copies may come at this moment, and is paid for
abbrev pub IsPaid : ℕ → ℕ → Allowance → Allowance → Type 0
IsPaid copies now old new =
    (copies * 1000 ≤ allowance_at old now)
    × (new ≡ record old { level = allowance_at old now - copies * 1000; at = max old.at now })

-- The first moment at which this number of copies may come, if that isn't more than the burst.
pub record IsFirstMoment (copies : ℕ) (a : Allowance) (moment : ℕ) : Type 0 where
  pub comes : copies ≤ a.burst → copies * 1000 ≤ allowance_at a moment
  pub before : (earlier : ℕ) → earlier < moment → allowance_at a earlier < copies * 1000

-- copies are paid for one payment after another, each of some copies at its moment
abbrev pub ArePaid : List (ℕ × ℕ) → Allowance → Allowance → Type 0
ArePaid [] old new = new ≡ old
ArePaid (payment ∷ payments) old new =
    (next : Allowance) × (IsPaid payment.0 payment.1 old next × ArePaid payments next new)

-- the number of copies of some payments
abbrev pub copies_of : List (ℕ × ℕ) → ℕ
copies_of [] = 0
copies_of (payment ∷ payments) = payment.0 + copies_of payments
