-- The 32-bit counter of an uplink. The frame carries its low 16 bits (TS001-1.0.4 §4.3.1.5).
use Rattle.std.specs.Prelude.{◌≡◌, ◌<◌, ◌≤◌, ◌+◌, ◌-◌, ◌%◌, ◌^◌, ℕ, Option, Some, None, IfSome}

-- the low bits are those of the last counter
abbrev pub IsRepeat : Option ℕ → ℕ → Type 0
IsRepeat None low = ⊥
IsRepeat (Some last) low = last % 2 ^ 16 ≡ low

-- a counter that is above the last one and has these low bits
pub record IsAbove (last : Option ℕ) (low n : ℕ) : Type 0 where
  pub fits : n < 2 ^ 32
  pub above : IfSome last (λ l. l < n)
  pub bits : n % 2 ^ 16 ≡ low

-- the least of them
pub record IsLeast (last : Option ℕ) (low n : ℕ) : Type 0 where
  pub is : IsAbove last low n
  pub least : (m : ℕ) → IsAbove last low m → n ≤ m

-- how far a counter is above the last one; before the first frame the last one is taken as -1
abbrev pub distance : Option ℕ → ℕ → ℕ
distance None n = n + 1
distance (Some last) n = n - last
