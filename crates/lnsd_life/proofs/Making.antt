-- One more ring.
use Rattle.std.proofs.Common.{◌≡◌, ◌∷◌, ◌++◌, ℕ, List, [], subst, sym}
use Rattle.outbox.specs.declared.ends.Inlet.{Inlet}
use Rattle.outbox.specs.declared.ends.Outlet.{Outlet}
use Rattle.lnsd_life.specs.Rings.{AreNewRings, IsNewRing}

pub one_ring_more : (places : ℕ) (outlets : List Outlet) (inlets : List Inlet) (outlet : Outlet) (inlet : Inlet)
    → AreNewRings places outlets inlets → IsNewRing places outlet inlet
    → AreNewRings places (outlets ++ outlet ∷ []) (inlets ++ inlet ∷ [])
one_ring_more places [] [] outlet inlet are one = (one, tt {0})
one_ring_more places [] (other ∷ others) outlet inlet are one = absurd are
one_ring_more places (other ∷ others) [] outlet inlet are one = absurd are
one_ring_more places (first ∷ outlets) (other ∷ inlets) outlet inlet (here, are) one =
    (here, one_ring_more places outlets inlets outlet inlet are one)

-- into lists whose last element it is
pub rings_with_one_more : (places : ℕ) (outlets all_outlets : List Outlet) (inlets all_inlets : List Inlet)
    (outlet : Outlet) (inlet : Inlet) → AreNewRings places outlets inlets → IsNewRing places outlet inlet
    → all_outlets ≡ outlets ++ outlet ∷ [] → all_inlets ≡ inlets ++ inlet ∷ []
    → AreNewRings places all_outlets all_inlets
rings_with_one_more places outlets all_outlets inlets all_inlets outlet inlet are one put pushed =
    subst (λ (l : List Outlet). AreNewRings places l all_inlets) (sym put)
    (subst (λ (l : List Inlet). AreNewRings places (outlets ++ outlet ∷ []) l) (sym pushed)
    (one_ring_more places outlets inlets outlet inlet are one))
