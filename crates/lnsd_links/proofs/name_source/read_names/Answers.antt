use Rattle.std.proofs.Common.{arith, inr, refl}
use Rattle.lnsd_links.proofs.name_source.read_names.Goals as goal

-- the source gave a list of as many names as there are places, or more
pub returns-then-count-places-clause-read : goal.returns-then-count-places-clause-read
returns-then-count-places-clause-read g c =
    inr (refl, (c.in_ok-list.list, (c.in_ok-list.ensures, omega (arith, c.if-count-places.true, c.count.ensures))))
