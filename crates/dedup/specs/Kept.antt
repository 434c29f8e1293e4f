-- How the windows are stored: in two maps from a frame's bytes.
use Rattle.std.specs.Prelude.{ℕ, zero, suc, ◌≤◌, nat_le, if◌then◌else◌, List, [], ◌∷◌, ◌++◌, Result}
use Rattle.std.specs.Prelude.{Ok, Err, length, map, reverse, AllPairs}
use Rattle.lw_types.specs.declared.refusal.Refusal.{Refusal}
use Rattle.lw_types.specs.declared.refusal.Refusal.TheVariants.{WindowsFull}
use Rattle.devices.specs.declared.heard.Hearing.{Hearing}
use Rattle.devices.specs.Heard.{with_hearing}
use Rattle.dedup.specs.declared.TheConstants.{MOST_WINDOWS}
use Rattle.dedup.specs.declared.gatherings.Gathering.{Gathering}
use Rattle.dedup.specs.Windows.{Window, with_hearings, result_map}

abbrev pub window_of : List ℕ × Gathering → Window
window_of entry =
    record { opened = entry.1.opened; phy_payload = entry.0; hearings = entry.1.hearings }

-- the windows in the order of opening: those of the older map from its end, then the newer ones
abbrev pub windows_of : List (List ℕ × Gathering) → List (List ℕ × Gathering) → List Window
windows_of older newer = map window_of (reverse older) ++ map window_of newer

-- at most 1,024, in the order of opening
pub record AreKept (ws : List Window) : Type 0 where
  pub few : length ws ≤ MOST_WINDOWS
  pub in_order : AllPairs (λ (a : ℕ) b. a ≤ b) (map (λ w. w.opened) ws)

-- the window at this place takes the copy or refuses it
abbrev pub joined_at : List Window → ℕ → Hearing → Result (List Window) Refusal
joined_at [] i hearing = Ok []
joined_at (w ∷ ws) zero hearing =
    result_map (λ hearings. with_hearings w hearings ∷ ws) (with_hearing w.hearings hearing)
joined_at (w ∷ ws) (suc i) hearing = result_map (λ rest. w ∷ rest) (joined_at ws i hearing)

-- a window of these bytes opens at the end, if there is room
abbrev pub opened_too : List Window → ℕ → List ℕ → Hearing → Result (List Window) Refusal
opened_too ws now phy_payload hearing =
    if nat_le MOST_WINDOWS (length ws) then Err WindowsFull
    else Ok (ws ++ (record { opened = now; phy_payload = phy_payload; hearings = hearing ∷ [] })
    ∷ [])
