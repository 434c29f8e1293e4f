-- Both closures can be called again. Lives have led the store here. Chains have too, after each of
-- which it was asked whether all is done.
use denote.Param.Always.{always_mut}
use denote.Param.Members.{Called}
use Rattle.std.proofs.Common.{Vec, Global, ℕ, List, Ok, map}
use Rattle.std.specs.List.{FoldsTo}
use Rattle.store.specs.State.{store_state}
use Rattle.flusher.specs.Lived.{LeadOn}
use Rattle.flusher.specs.Released.{effects_of_all}
use Rattle.flusher.specs.Serving.{GoesOnAfter, MakeChains}
use Rattle.flusher.specs.declared.released.Released.{Released}
use Rattle.flusher.proofs.serving.serve.Given as goal

abbrev pub invariant-loop : goal.invariant-loop
invariant-loop g l =
    always_mut g.C.FnMut l.out
    × (always_mut g.S.FnMut l.done
    × ((g.D.Disk.honest
    → LeadOn (λ (released : Vec Released Global). effects_of_all released.items) (λ before released after. Called g.C.FnMut before (released, tt) tt after)
    (store_state g.D.Disk.state l.fn.store) (store_state g.D.Disk.state l.store) l.fn.out l.out)
    × ((counts : List ℕ) × (MakeChains g.D.Disk g.F.Feed.gives (λ (released : Vec Released Global). effects_of_all released.items)
    (λ before released after. Called g.C.FnMut before (released, tt) tt after) 64 l.fn.store l.store l.fn.feed l.feed l.fn.out l.out (map (λ count. Ok count) counts)
    × FoldsTo (GoesOnAfter (λ before answer after. Called g.S.FnMut before tt answer after)) l.fn.done counts l.done))))
