-- Only the feeder has changed, and nobody has greeted yet.
use Rattle.std.proofs.Common.{◌≡◌, None}
use Rattle.lnsd_threads.proofs.reading.Worker.handle_greeting.Given as goal

abbrev pub invariant-loop : goal.invariant-loop
invariant-loop g l =
    (l.self ≡ record l.initial.self { feeder = l.self.feeder })
    × (l.initial.self.feeder.peer ≡ None → l.self.feeder.peer ≡ None)
