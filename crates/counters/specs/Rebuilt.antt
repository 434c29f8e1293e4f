-- The counter that the low bits of a frame stand for, computed (TS001-1.0.4 §4.3.1.5).
use Rattle.std.specs.Prelude.{◌==◌, ◌+◌, ◌-◌, ◌%◌, ◌^◌, ◌&&◌, ℕ, nat_lt, if◌then◌else◌, Option}
use Rattle.std.specs.Prelude.{Some, None}
use Rattle.counters.specs.declared.Rebuilt.{Rebuilt}
use Rattle.counters.specs.declared.TheConstants.{MAX_GAP}
use Rattle.counters.specs.declared.Rebuilt.TheVariants.{New, Repeat, Gap}

-- the least number from `first` on with these low bits
abbrev pub least_from : ℕ → ℕ → ℕ
least_from first low = first + (low + 2 ^ 16 - first % 2 ^ 16) % 2 ^ 16

-- a counter is new if it is below 2^32 and near enough. The standard sets no such limit; 16,384 is
-- this project's
abbrev pub if_near : ℕ → ℕ → Rebuilt
if_near first n = if nat_lt n (first + MAX_GAP) && nat_lt n (2 ^ 32) then New n else Gap

-- the whole counter of a frame with this FCnt (its low bits), after the last counter that was
-- accepted, if any
abbrev pub rebuilt_counter : Option ℕ → ℕ → Rebuilt
rebuilt_counter None low = if_near 0 (least_from 0 low)
rebuilt_counter (Some last) low =
    if last % 2 ^ 16 == low then Repeat else if_near (last + 1) (least_from (last + 1) low)
