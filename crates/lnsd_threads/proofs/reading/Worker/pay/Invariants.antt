-- Nothing was paid yet.
use Rattle.std.proofs.Common.{◌≡◌}
use Rattle.lnsd_threads.proofs.reading.Worker.pay.Given as goal

abbrev pub invariant-loop : goal.invariant-loop
invariant-loop g l = l.self ≡ l.initial.self
