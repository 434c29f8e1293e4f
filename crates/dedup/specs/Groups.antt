-- Which copies belong to one sending of a frame.
use Rattle.std.specs.Prelude.{ℕ, zero, suc, ◌+◌, Bool, not, ◌&&◌, nat_lt, List, [], ◌∷◌, length}
use Rattle.std.specs.Prelude.{filter, bytes_eq}
use Rattle.lw_types.specs.declared.frame_copy.FrameCopy.{FrameCopy}
use Rattle.dedup.specs.declared.TheConstants.{WAIT}

-- a copy that was accepted, and the effective time at which it came
pub record Arrival : Type 0 where
  pub at : ℕ
  pub copy : FrameCopy

abbrev pub arrival : ℕ → FrameCopy → Arrival
arrival at copy = record { at = at; copy = copy }

-- it came before the first copy's wait was over, and has the same bytes
abbrev pub is_in_group : Arrival → Arrival → Bool
is_in_group first a =
    nat_lt a.at (first.at + WAIT) && bytes_eq a.copy.phy_payload first.copy.phy_payload

-- the first n groups: the first copy with all copies that join it, then the groups of the rest
abbrev pub first_groups : ℕ → List Arrival → List (List Arrival)
first_groups zero arrivals = []
first_groups (suc n) [] = []
first_groups (suc n) (first ∷ rest) =
    (first ∷ filter (is_in_group first) rest)
    ∷ first_groups n (filter (λ a. not (is_in_group first a)) rest)

-- the copies of each sending, in the order of their first copies
abbrev pub groups : List Arrival → List (List Arrival)
groups arrivals = first_groups (length arrivals) arrivals
