use Rattle.std.proofs.Common.{◌≡◌, length}
use Rattle.lnsd_links.proofs.link.accept.Given as goal

abbrev pub invariant-loop-number : goal.invariant-loop-number
invariant-loop-number l = length l.streams.items ≡ l._number
