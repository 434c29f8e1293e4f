-- The windows that are open.
use Rattle.std.specs.Prelude.{◌≡◌, ℕ, ◌+◌, ◌≤◌, Bool, true, false, not, nat_le, if◌then◌else◌, List}
use Rattle.std.specs.Prelude.{[], ◌∷◌, ◌++◌, Result, Ok, Err, length, filter, map, take, drop, All}
use Rattle.std.specs.Prelude.{bytes_eq, ◌^◌, nat_lt, Option, Some, None}
use Rattle.std.specs.List.{list_any}
use Rattle.lw_types.specs.declared.frame_copy.FrameCopy.{FrameCopy}
use Rattle.lw_types.specs.declared.refusal.Refusal.{Refusal}
use Rattle.lw_types.specs.declared.refusal.Refusal.TheVariants.{WindowsFull}
use Rattle.devices.specs.declared.heard.Heard.{Heard}
use Rattle.devices.specs.declared.heard.Hearing.{Hearing}
use Rattle.devices.specs.Heard.{with_hearing}
use Rattle.dedup.specs.declared.TheConstants.{WAIT, MOST_WINDOWS}
use Rattle.dedup.specs.Groups.{Arrival, groups}

-- a frame's copies so far, and when the first one came
pub record Window : Type 0 where
  pub opened : ℕ
  pub phy_payload : List ℕ
  pub hearings : List Hearing

-- its wait is over
abbrev pub is_due : ℕ → Window → Bool
is_due now window = nat_le (window.opened + WAIT) now

-- the moment at which the oldest window is due, if it is before this end of time
abbrev pub due_before : ℕ → List Window → Option ℕ
due_before end [] = None
due_before end (w ∷ ws) = if nat_lt (w.opened + WAIT) end then Some (w.opened + WAIT) else None

-- as a number of 64 bits
abbrev pub oldest_due : List Window → Option ℕ
oldest_due ws = due_before (2 ^ 64) ws

abbrev pub hearing_of : FrameCopy → Hearing
hearing_of copy = record { reception = copy.reception; stamp = copy.stamp }

-- the window in which a group's copies are (of no copies at all: anything)
abbrev pub window_of_group : List Arrival → Window
window_of_group [] = record { opened = 0; phy_payload = []; hearings = [] }
window_of_group (first ∷ rest) = record {
  opened = first.at;
  phy_payload = first.copy.phy_payload;
  hearings = map (λ a. hearing_of a.copy) (first ∷ rest);
}

-- the frame of these bytes, with these copies
abbrev pub heard_now : List ℕ → List Hearing → Heard
heard_now phy_payload hearings = record { phy_payload = phy_payload; hearings = hearings }

-- the frame with all the copies that the window has
abbrev pub heard_in : Window → Heard
heard_in window = heard_now window.phy_payload window.hearings

-- the result, with its value changed
abbrev pub result_map : {A B : Type 0} → (A → B) → Result A Refusal → Result B Refusal
result_map f (Ok x) = Ok (f x)
result_map f (Err e) = Err e

abbrev pub is_of : List ℕ → Window → Bool
is_of bytes window = bytes_eq bytes window.phy_payload

abbrev pub opened_by : ℕ → FrameCopy → Window
opened_by now copy =
    record { opened = now; phy_payload = copy.phy_payload; hearings = hearing_of copy ∷ [] }

abbrev pub with_hearings : Window → List Hearing → Window
with_hearings window hearings =
    record { opened = window.opened; phy_payload = window.phy_payload; hearings = hearings }

-- the window of the copy's bytes takes the copy or refuses it
abbrev pub joined_windows : List Window → FrameCopy → Result (List Window) Refusal
joined_windows [] copy = Ok []
joined_windows (w ∷ ws) copy =
    if is_of copy.phy_payload w then result_map (λ hearings. with_hearings w hearings ∷ ws)
    (with_hearing w.hearings (hearing_of copy))
    else result_map (λ rest. w ∷ rest) (joined_windows ws copy)

-- the window of its bytes takes the copy; if there is none, a new one opens at the end. At most
-- 1,024 windows are open
abbrev pub windows_with : List Window → ℕ → FrameCopy → Result (List Window) Refusal
windows_with ws now copy =
    if list_any (is_of copy.phy_payload) ws then joined_windows ws copy
    else if nat_le MOST_WINDOWS (length ws) then Err WindowsFull
    else Ok (ws ++ opened_by now copy ∷ [])

abbrev pub NoneDue : ℕ → List Window → Type 0
NoneDue now ws = All (λ w. is_due now w ≡ false) ws

-- each window opened at this moment or before, and none is due
abbrev pub IsCurrent : ℕ → List Window → Type 0
IsCurrent now ws = All (λ w. (w.opened ≤ now) × (is_due now w ≡ false)) ws

-- the groups that aren't due
abbrev pub open_windows : ℕ → List Arrival → List Window
open_windows now arrivals = filter (λ w. not (is_due now w)) (map window_of_group (groups arrivals))

-- the oldest window is due: what was heard in it, and the other windows
pub record IsOldestDue (now : ℕ) (ws : List Window) (heard : Heard)
    (rest : List Window) : Type 0 where
  pub window : Window
  pub oldest : ws ≡ window ∷ rest
  pub due : is_due now window ≡ true
  pub heard_in_it : heard ≡ heard_in window

-- the windows are those of these arrivals' groups after the first `closed` ones, each of which is
-- due
pub record StandFor (ws : List Window) (arrivals : List Arrival) (closed now : ℕ) : Type 0 where
  pub windows : ws ≡ drop closed (map window_of_group (groups arrivals))
  pub within : closed ≤ length (groups arrivals)
  pub due : All (λ w. is_due now w ≡ true) (take closed (map window_of_group (groups arrivals)))
