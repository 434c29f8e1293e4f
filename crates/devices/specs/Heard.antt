-- A frame with all its copies.
use Rattle.std.specs.Prelude.{◌≡◌, ◌≢◌, ◌≤◌, ◌<◌, ◌<ℤ◌, ◌⊎◌, ℕ, Bool, true, false, ◌==◌, nat_le}
use Rattle.std.specs.Prelude.{nat_lt, int_lt, if◌then◌else◌, List, [], ◌∷◌, ◌++◌, Option, Some}
use Rattle.std.specs.Prelude.{None, Result, Ok, Err, length, All, AllPairs, Contains}
use Rattle.std.specs.List.{list_any}
use Rattle.lw_types.specs.declared.frame_copy.Reception.{Reception}
use Rattle.lw_types.specs.declared.refusal.Refusal.{Refusal}
use Rattle.lw_types.specs.declared.refusal.Refusal.TheVariants.{SameGateway, CopiesFull}
use Rattle.region_eu868.specs.Region.{channels}
use Rattle.devices.specs.declared.heard.Hearing.{Hearing}
use Rattle.devices.specs.declared.heard.TheConstants.Hearings.{MOST}

abbrev pub gateway_of : Hearing → ℕ
gateway_of h = h.reception.gateway.0

-- on a channel, at a data rate from 0 to 5
abbrev pub IsReceivable : Reception → Type 0
IsReceivable r = Contains channels r.frequency × (r.data_rate ≤ 5)

-- no two copies are from one gateway
abbrev pub AreApart : List Hearing → Type 0
AreApart hearings = AllPairs (λ a b. gateway_of a ≢ gateway_of b) hearings

-- these can be all the copies of a frame
pub record AreHearings (hearings : List Hearing) : Type 0 where
  pub some : 0 < length hearings
  pub few : length hearings ≤ MOST
  pub receivable : All (λ h. IsReceivable h.reception) hearings
  pub apart : AreApart hearings

-- a copy is from this gateway
abbrev pub has_gateway : List Hearing → ℕ → Bool
has_gateway hearings gateway = list_any (λ h. gateway_of h == gateway) hearings

-- the copies with one more: at most one from each gateway, and at most 32
abbrev pub with_hearing : List Hearing → Hearing → Result (List Hearing) Refusal
with_hearing hearings hearing =
    if has_gateway hearings (gateway_of hearing) then Err SameGateway
    else if nat_le MOST (length hearings) then Err CopiesFull
    else Ok (hearings ++ hearing ∷ [])

-- whether a copy was heard better than another: with a greater SNR, else with a greater RSSI, else
-- by a smaller gateway EUI
abbrev pub is_better : Hearing → Hearing → Bool
is_better a b =
    if int_lt b.reception.snr a.reception.snr then true
    else if int_lt a.reception.snr b.reception.snr then false
    else if int_lt b.reception.rssi a.reception.rssi then true
    else if int_lt a.reception.rssi b.reception.rssi then false
    else nat_lt (gateway_of a) (gateway_of b)

-- the better one of two copies
abbrev pub better_of : Hearing → Hearing → Hearing
better_of a b = if is_better b a then b else a

-- the best of these and of those before them
abbrev pub best_with : Hearing → List Hearing → Hearing
best_with best [] = best
best_with best (h ∷ hs) = best_with (better_of best h) hs

-- the copy that was heard best
abbrev pub best_of : List Hearing → Option Hearing
best_of [] = None
best_of (h ∷ hs) = Some (best_with h hs)

-- a copy was heard better than another: with a greater SNR; or with the same SNR and a greater
-- RSSI; or with both the same, by a smaller gateway EUI
abbrev pub IsBetter : Hearing → Hearing → Type 0
IsBetter a b =
    (b.reception.snr <ℤ a.reception.snr)
    ⊎ (a.reception.snr ≡ b.reception.snr) × ((b.reception.rssi <ℤ a.reception.rssi)
    ⊎ (a.reception.rssi ≡ b.reception.rssi) × (gateway_of a < gateway_of b))

-- one of these copies, such that no other is better
pub record IsBest (hearings : List Hearing) (best : Hearing) : Type 0 where
  pub one : Contains hearings best
  pub greatest : All (λ h. ¬ (IsBetter h best)) hearings
