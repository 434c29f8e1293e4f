-- where the chain stands
use denote.Param.Always.{always_mut}
use denote.Param.Members.{Called}
use Rattle.std.proofs.Common.{◌+◌, ◌*◌, [], ◌∷◌, Vec, Global}
use Rattle.store.specs.Phases.{begun_sequel}
use Rattle.store.specs.UnderWay.{flights_in}
use Rattle.flusher.specs.Chain.{GivesAll}
use Rattle.flusher.specs.Released.{effects_of_all}
use Rattle.flusher.specs.declared.released.Released.{Released}
use Rattle.flusher.proofs.Chains.{rank_of}
use Rattle.flusher.proofs.Links.{IsFlying, IsUpTo}
use Rattle.flusher.proofs.Making.{HasMade}
use Rattle.flusher.proofs.chaining.follow.Given as goal

abbrev pub invariant-calls : goal.invariant-calls
invariant-calls g l =
    always_mut g.C.FnMut l.out
    × (IsFlying g.D.Disk l.fn.store l.store l.under_way l.more l.count
    × (HasMade g.D.Disk l.fn.store l.store l.under_way (l.fn.more + 1) l.more
    × ((before : _) → GivesAll g.F.Feed.gives before ((begun_sequel l.fn.begun).decisions ∷ []) l.fn.feed
    → IsUpTo g.D.Disk g.F.Feed.gives (λ (released : Vec Released Global). effects_of_all released.items)
    (λ before released after. Called g.C.FnMut before (released, tt) tt after) (l.fn.more + 1) l.fn.store l.store before l.feed l.fn.out l.out l.under_way l.more
    l.count l.end)))

abbrev pub decreases-calls : goal.decreases-calls
decreases-calls g l = 4 * l.more + rank_of (flights_in l.under_way)
