use Rattle.std.proofs.Common.{◌≡◌, length}
use Rattle.gateway_server.proofs.descriptors.open_all.Given as goal

-- each turn has opened one more
abbrev pub invariant-loop-number : goal.invariant-loop-number
invariant-loop-number g l = length l.held.items ≡ l._number
