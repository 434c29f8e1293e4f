-- Decimals with one spelling.
use Rattle.std.specs.Prelude.{ℕ, Bool, ◌&&◌, ◌||◌, ◌==◌, List, length, slice_index, nat_le}

-- a digit from 1 to 9 comes first, or the text is a single 0: no sign and no leading 0
abbrev pub starts_plain : List ℕ → Bool
starts_plain text =
    nat_le 49 (slice_index text 0) && nat_le (slice_index text 0) 57 || slice_index text 0 == 48
    && length text == 1

-- the same after a minus, but without the single 0
abbrev pub starts_with_minus : List ℕ → Bool
starts_with_minus text =
    slice_index text 0 == 45 && nat_le 49 (slice_index text 1) && nat_le (slice_index text 1) 57
