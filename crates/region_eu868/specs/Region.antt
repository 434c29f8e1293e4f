-- The channels and data rates of EU868 (RP002-1.0.4, EU863-870): DR 0 to 5 are SF12 to SF7 at 125
-- kHz.
use Rattle.std.specs.Prelude.{◌≡◌, ◌==◌, ◌+◌, ◌*◌, ◌/◌, ℕ, min, Bool, List, [], ◌∷◌, ◌++◌, take}
use Rattle.std.specs.Prelude.{slice_index, ℤ, pos, negsuc, ◌+ℤ◌, ◌-ℤ◌, ◌<ℤ◌, ◌≤ℤ◌, neg_ℤ}
use Rattle.std.specs.List.{flat_map, list_any}
use Rattle.std.specs.Int.{w32, to_le_bytes}

-- the channels that each device has from the start, in Hz
abbrev pub first_channels : List ℕ
first_channels = 868100000 ∷ 868300000 ∷ 868500000 ∷ []

-- the channels that a Join-Accept adds, in Hz
abbrev pub later_channels : List ℕ
later_channels = 867100000 ∷ 867300000 ∷ 867500000 ∷ 867700000 ∷ 867900000 ∷ []

-- all of them
abbrev pub channels : List ℕ
channels = first_channels ++ later_channels

-- whether a frequency is one of these
abbrev pub is_among : List ℕ → ℕ → Bool
is_among frequencies frequency = list_any (λ (f : ℕ). frequency == f) frequencies

-- a frequency in a CFList: in units of 100 Hz, three bytes, low bytes first
abbrev pub cf_frequency : ℕ → List ℕ
cf_frequency frequency = take 3 (to_le_bytes w32 (frequency / 100))

-- the CFList of a Join-Accept: five frequencies, and then the type of the list, 0 for frequencies
-- (TS001-1.0.4 §6.2.6; RP002-1.0.4, EU863-870)
abbrev pub cf_list : List ℕ
cf_list = flat_map cf_frequency later_channels ++ 0 ∷ []

-- the largest MACPayload of each data rate, in bytes
abbrev pub max_payloads : List ℕ
max_payloads = 59 ∷ 59 ∷ 59 ∷ 123 ∷ 250 ∷ 250 ∷ []

-- how far below 0 dB the SNR of each data rate may be, in quarter dB
abbrev pub snr_depths : List ℕ
snr_depths = 80 ∷ 70 ∷ 60 ∷ 50 ∷ 40 ∷ 30 ∷ []

-- the SNR floor of a data rate, in quarter dB
abbrev pub snr_floor : ℕ → ℤ
snr_floor dr = neg_ℤ (pos (slice_index snr_depths dr))

-- m is the number of whole dB by which an SNR is above the floor of its data rate, from 0 to 254
pub record IsMargin (snr : ℤ) (dr m : ℕ) : Type 0 where
  pub below : snr <ℤ (snr_floor dr +ℤ pos 4) → m ≡ 0
  pub above : (snr_floor dr +ℤ pos (4 * 254)) ≤ℤ snr → m ≡ 254
  pub between : snr_floor dr ≤ℤ snr → snr <ℤ (snr_floor dr +ℤ pos (4 * 255))
      → ((snr_floor dr +ℤ pos (4 * m)) ≤ℤ snr) × (snr <ℤ (snr_floor dr +ℤ pos (4 * m + 4)))

-- the whole dB in a number of quarter dB, from 0 to 254
abbrev pub whole_db : ℤ → ℕ
whole_db (pos quarters) = min (quarters / 4) 254
whole_db (negsuc below) = 0

-- by how many whole dB an SNR is above the floor of its data rate
abbrev pub margin_of : ℤ → ℕ → ℕ
margin_of snr dr = whole_db (snr -ℤ snr_floor dr)
