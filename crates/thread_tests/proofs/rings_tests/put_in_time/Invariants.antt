use Rattle.outbox.specs.Ring.{SameOutlet}
use Rattle.thread_tests.proofs.rings_tests.put_in_time.Given as goal

abbrev pub invariant-loop : goal.invariant-loop
invariant-loop l = SameOutlet l.initial.outlet l.outlet
