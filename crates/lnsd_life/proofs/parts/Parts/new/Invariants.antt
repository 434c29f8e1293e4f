use Rattle.std.proofs.Common.{◌≡◌, ◌+◌, ℕ, Some, length, map}
use Rattle.std.specs.Prelude.{slice_get}
use Rattle.lnsd_life.specs.Rings.{AreNewRings}
use Rattle.lnsd_life.specs.declared.parts.LinkParts.{LinkParts}
use Rattle.lnsd_life.proofs.parts.Parts.new.Given as goal

abbrev pub invariant-loop-place : goal.invariant-loop-place
invariant-loop-place g l =
    (l.shared.left + l.place ≡ l.links + 1)
    × ((length l.all.items ≡ l.place)
    × (AreNewRings 1024 l.outlets.items (map (λ (link : LinkParts g.row.B.Denot). link.spare.inlet) l.all.items)
    × ((place : ℕ) (link : LinkParts g.row.B.Denot) → slice_get l.all.items place ≡ Some link → link.spare.place ≡ place)))
