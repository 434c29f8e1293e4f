-- If the threads are whole, this number of attendants were added.
use Rattle.std.proofs.Common.{◌≡◌, ◌+◌, length}
use Rattle.std.specs.Prelude.{IsTrue}
use Rattle.lnsd_life.proofs.running.Started.start_attendants.Given as goal

abbrev pub invariant-loop-number : goal.invariant-loop-number
invariant-loop-number g l =
    (IsTrue l.self.is_whole → IsTrue l.initial.self.is_whole
    × (length l.self.attendants.items ≡ length l.initial.self.attendants.items + l.number-counter))
    × (l.self ≡ record l.initial.self { attendants = l.self.attendants; is_whole = l.self.is_whole })
