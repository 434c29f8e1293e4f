-- The closure can be called again, and the lives so far led the disk here.
use denote.Param.Always.{always_mut}
use denote.Param.Members.{Called}
use Rattle.std.proofs.Common.{Vec, Global, take}
use Rattle.flusher.specs.Lived.{AreOnDisk, GoOnFrom}
use Rattle.flusher_lives.specs.OverLives.{AreFlusherLives}
use Rattle.flusher.specs.Released.{effects_of_all}
use Rattle.flusher.specs.declared.released.Released.{Released}
use Rattle.flusher_lives.proofs.over_lives.flush_over_lives.Given as goal

abbrev pub invariant-loop-life : goal.invariant-loop-life
invariant-loop-life g l =
    always_mut g.C.FnMut l.out
    × (AreFlusherLives g.D.Disk g.F.Feed.gives (λ (released : Vec Released Global). effects_of_all released.items)
    (λ before released after. Called g.C.FnMut before (released, tt) tt after) (take l.life-index l.lives) l.fn.disk l.disk l.fn.feed l.feed l.fn.out l.out
    × GoOnFrom (λ (released : Vec Released Global). effects_of_all released.items) (λ before released after. Called g.C.FnMut before (released, tt) tt after)
    (λ lives t number. AreOnDisk lives t number (g.D.Disk.state l.fn.disk)) (λ lives t number. AreOnDisk lives t number (g.D.Disk.state l.disk)) l.fn.out l.out)
