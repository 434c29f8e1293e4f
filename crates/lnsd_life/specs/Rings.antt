-- The rings of a life when they are made.
use Rattle.std.specs.Prelude.{◌≡◌, ◌∷◌, ⊤, ℕ, List, []}
use Rattle.outbox.specs.Ring.{put_in, room_of, taken_from, AreEnds}
use Rattle.outbox.specs.declared.ends.Inlet.{Inlet}
use Rattle.outbox.specs.declared.ends.Outlet.{Outlet}

-- the two ends of one empty ring with this number of places
abbrev pub IsNewRing : ℕ → Outlet → Inlet → Type 0
IsNewRing places outlet inlet =
    AreEnds outlet inlet × ((put_in outlet ≡ []) × ((taken_from inlet ≡ [])
    × (room_of outlet ≡ places)))

-- the ends of new rings; the two ends of one ring are at the same place of both lists
abbrev pub AreNewRings : ℕ → List Outlet → List Inlet → Type 0
AreNewRings places [] [] = ⊤
AreNewRings places [] (inlet ∷ inlets) = ⊥
AreNewRings places (outlet ∷ outlets) [] = ⊥
AreNewRings places (outlet ∷ outlets) (inlet ∷ inlets) =
    IsNewRing places outlet inlet × AreNewRings places outlets inlets
