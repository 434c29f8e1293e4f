-- this number of windows were closed
use Rattle.std.proofs.Common.{◌≡◌, ◌+◌, length}
use Rattle.session_core.specs.Observing.{ClosesSeen}
use Rattle.session_core.proofs.events.Core.close_due.Given as goal

abbrev pub invariant-loop-i : goal.invariant-loop-i
invariant-loop-i l = ClosesSeen l._i l.fn.self l.self l.fn.observed l.observed × (length l.self.windows + l._i ≡ length l.fn.self.windows)
