use Rattle.outbox.specs.Ring.{SameOutlet}
use Rattle.thread_tests.proofs.rings_tests.put_all.Given as goal

abbrev pub invariant-loop-released : goal.invariant-loop-released
invariant-loop-released l = SameOutlet l.fn.outlet l.outlet
