-- Each place so far has its number.
use Rattle.std.proofs.Common.{◌≡◌, ℕ, Some, length}
use Rattle.std.specs.Prelude.{slice_get}
use Rattle.lnsd_links.specs.declared.link.Link.{Link}
use Rattle.lnsd_links.proofs.link.empty_places.Given as goal

abbrev pub invariant-loop-place : goal.invariant-loop-place
invariant-loop-place l =
    (length l.links.items ≡ l.place)
    × ((place : ℕ) (link : Link) → slice_get l.links.items place ≡ Some link → link.place ≡ place)
