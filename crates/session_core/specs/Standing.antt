-- What the windows of a core represent.
use Rattle.std.specs.Prelude.{ℕ, List, [], ◌∷◌, ◌++◌, Option, Some, None}
use Rattle.lw_types.specs.declared.refusal.Refusal.{Refusal}
use Rattle.lw_types.specs.declared.frame_copy.FrameCopy.{FrameCopy}
use Rattle.dedup.specs.Groups.{Arrival, arrival}

-- the copies that were accepted, with one more that came at this effective time, unless it was
-- refused
abbrev pub with_copy : Option Refusal → ℕ → FrameCopy → List Arrival → List Arrival
with_copy None now copy arrivals = arrivals ++ arrival now copy ∷ []
with_copy (Some refusal) now copy arrivals = arrivals
