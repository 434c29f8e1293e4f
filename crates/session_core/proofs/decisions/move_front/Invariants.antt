-- the first i decisions have moved
use Rattle.std.proofs.Common.{◌≡◌, take, drop}
use Rattle.session_core.proofs.decisions.move_front.Given as goal

abbrev pub invariant-loop-i : goal.invariant-loop-i
invariant-loop-i l = (l.batch ≡ take l._i l.fn.log.items) × (l.log.items ≡ drop l._i l.fn.log.items)
