-- The first counter from a number on.
use Rattle.std.specs.Prelude.{◌≡◌, ◌<◌, ◌≤◌, ◌+◌, ◌%◌, ◌^◌, ℕ}
use Rattle.counters.specs.declared.Rebuilt.{Rebuilt}
use Rattle.counters.specs.declared.TheConstants.{MAX_GAP}
use Rattle.counters.specs.declared.Rebuilt.TheVariants.{New, Repeat, Gap}

-- a counter from `first` on with these low bits
abbrev pub IsFrom : ℕ → ℕ → ℕ → Type 0
IsFrom first low n = (n < 2 ^ 32) × (first ≤ n) × (n % 2 ^ 16 ≡ low)

abbrev pub FirstFrom : ℕ → ℕ → Rebuilt → Type 0
FirstFrom first low (New n) =
    IsFrom first low n × (n < first + MAX_GAP) × ((m : ℕ) → IsFrom first low m → n ≤ m)
FirstFrom first low Repeat = ⊥
FirstFrom first low Gap = (m : ℕ) → IsFrom first low m → first + MAX_GAP ≤ m
