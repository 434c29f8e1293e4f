use Rattle.std.proofs.Common.{◌≡◌, ◌++◌, ℕ, List, Some, length, map}
use Rattle.std.specs.Prelude.{slice_get}
use Rattle.lnsd_links.specs.declared.rings.OwnRing.{OwnRing}
use Rattle.outbox.specs.declared.ends.Outlet.{Outlet}
use Rattle.lnsd_life.specs.Rings.{AreNewRings}
use Rattle.lnsd_life.proofs.parts.Parts.add_lines.Given as goal

abbrev pub invariant-loop-application : goal.invariant-loop-application
invariant-loop-application g l =
    (length l.all.items ≡ l.application)
    × (((added : List Outlet)
    × ((l.self.outlets.items ≡ l.initial.self.outlets.items ++ added)
    × AreNewRings 1024 added (map (λ (own : OwnRing). own.inlet) l.all.items)))
    × (((application : ℕ) (own : OwnRing) → slice_get l.all.items application ≡ Some own → own.application ≡ application)
    × (l.self.links ≡ l.initial.self.links)))
