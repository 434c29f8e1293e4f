-- The closure can be called again. The lives so far and those that are left are all lives. Those so
-- far kept what was decided.
use denote.Param.Always.{always_mut}
use denote.Param.Members.{Called}
use Rattle.std.proofs.Common.{Vec, Global, List, ◌≡◌, ◌++◌}
use Rattle.disk.specs.State.{EveryImage}
use Rattle.store.specs.Image.{HoldsTable}
use Rattle.flusher_lives.specs.CoreLives.{AreCoreLives}
use Rattle.flusher_lives.specs.Deciding.{EachHolds, HaveDecided, NumberedTable}
use Rattle.flusher.specs.Released.{effects_of_all}
use Rattle.flusher.specs.declared.released.Released.{Released}
use Rattle.flusher_lives.specs.declared.core_lives.CoreLife.{CoreLife}
use Rattle.flusher_lives.proofs.core_lives.decide_over_lives.Given as goal

abbrev pub invariant-loop-life : goal.invariant-loop-life
invariant-loop-life g l =
    always_mut g.C.FnMut l.out
    × (((last : _) (out : _) → AreCoreLives g.D.Disk (λ (released : Vec Released Global). effects_of_all released.items) (λ before released after. Called g.C.FnMut before (released, tt) tt after) l.life-iterator.rest.items l.disk last l.out out
    → AreCoreLives g.D.Disk (λ (released : Vec Released Global). effects_of_all released.items) (λ before released after. Called g.C.FnMut before (released, tt) tt after) l.fn.lives.items l.fn.disk last l.fn.out out)
    × ((done : List CoreLife) × ((done ++ l.life-iterator.rest.items ≡ l.fn.lives.items)
    × ((first : NumberedTable) → EveryImage (g.D.Disk.state l.fn.disk) (HoldsTable first.table first.seq)
    → EachHolds (g.D.Disk.state l.disk) (λ last. HaveDecided (λ (released : Vec Released Global). effects_of_all released.items) (λ before released after. Called g.C.FnMut before (released, tt) tt after) done first last l.fn.out l.out)))))
