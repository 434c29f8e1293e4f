-- The closure can be called again. Lives have led the store here, and so have as many chains as
-- were counted.
use denote.Param.Always.{always_mut}
use denote.Param.Members.{Called}
use Rattle.std.proofs.Common.{◌≡◌, ◌≤◌, Vec, Global, ℕ, List, Ok, length, map}
use Rattle.store.specs.State.{store_state}
use Rattle.flusher.specs.Lived.{LeadOn}
use Rattle.flusher.specs.Released.{effects_of_all}
use Rattle.flusher.specs.Serving.{MakeChains}
use Rattle.flusher.specs.declared.released.Released.{Released}
use Rattle.flusher_lives.proofs.over_lives.flush_life.Given as goal

abbrev pub invariant-loop : goal.invariant-loop
invariant-loop g l =
    always_mut g.C.FnMut l.out
    × (LeadOn (λ (released : Vec Released Global). effects_of_all released.items) (λ before released after. Called g.C.FnMut before (released, tt) tt after)
    (store_state g.D.Disk.state l.fn.store) (store_state g.D.Disk.state l.store) l.fn.out l.out
    × ((counts : List ℕ) × ((length counts ≡ l.counter) × ((l.counter ≤ l.fn.chains) × MakeChains g.D.Disk g.F.Feed.gives (λ (released : Vec Released Global). effects_of_all released.items)
    (λ before released after. Called g.C.FnMut before (released, tt) tt after) l.fn.most l.fn.store l.store l.fn.feed l.feed l.fn.out l.out (map (λ count. Ok count) counts)))))
