-- if the remaining ones are put into their rings, all are; and the rings of those so far are marked
use Rattle.std.proofs.Common.{ℕ, ◌≡◌, ◌+◌, ◌≤◌, List, length}
use Rattle.flusher.specs.Released.{effects_of_all}
use Rattle.lnsd_links.specs.Routing.{AreMarked, IsRouted}
use Rattle.outbox.specs.declared.ends.Outlet.{Outlet}
use Rattle.lnsd_links.proofs.routing.route.Given as goal

abbrev pub invariant-loop-one : goal.invariant-loop-one
invariant-loop-one l =
    ((others : ℕ) (after : List Outlet) → IsRouted l.directory (effects_of_all l.one-iterator.rest.items) others l.outlets after
    → IsRouted l.directory (effects_of_all l.fn.released.items) (l.lost + others) l.initial.outlets after)
    × (l.lost + length l.one-iterator.rest.items ≤ length l.fn.released.items)
    × ((length l.marks ≡ length l.initial.marks) × AreMarked l.initial.marks l.marks l.initial.outlets l.outlets)
