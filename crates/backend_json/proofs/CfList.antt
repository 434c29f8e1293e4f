-- The CFList is bytes, so that it is the value of its text.
use Rattle.std.proofs.Common.{ℕ, zero, suc, ◌<◌, ◌/◌, ◌%◌, List, [], ◌∷◌, ◌++◌, arith}
use Rattle.std.specs.List.{flat_map}
use Rattle.lw_types.specs.Hex.{IsBytes}
use Rattle.region_eu868.specs.Region.{cf_frequency, cf_list, later_channels}

first : (x : ℕ) (xs : List ℕ) → x < 256 → IsBytes xs → IsBytes (x ∷ xs)
first x xs lt h zero = lt
first x xs lt h (suc i) = h i

behind : (a b : List ℕ) → IsBytes a → IsBytes b → IsBytes (a ++ b)
behind [] b ha hb = hb
behind (x ∷ a) b ha hb = first x (a ++ b) (ha 0) (behind a b (λ i. ha (suc i)) hb)

none : IsBytes []
none i = omega arith

frequency : (f : ℕ) → IsBytes (cf_frequency f)
frequency f =
    let n = f / 100 in
    first (n % 256) (n / 256 % 256 ∷ n / 65536 % 256 ∷ []) (omega arith)
    (first (n / 256 % 256) (n / 65536 % 256 ∷ []) (omega arith) (first (n / 65536 % 256) [] (omega arith) none))

frequencies : (fs : List ℕ) → IsBytes (flat_map cf_frequency fs)
frequencies [] = none
frequencies (f ∷ fs) = behind (cf_frequency f) (flat_map cf_frequency fs) (frequency f) (frequencies fs)

pub list_is_bytes : IsBytes cf_list
list_is_bytes = behind (flat_map cf_frequency later_channels) (0 ∷ []) (frequencies later_channels) (first 0 [] (omega arith) none)
