use Rattle.outbox.specs.Ring.{SameInlet}
use Rattle.thread_tests.proofs.rings_tests.taken_in_order.Given as goal

abbrev pub invariant-loop : goal.invariant-loop
invariant-loop l = SameInlet l.initial.inlet l.inlet
