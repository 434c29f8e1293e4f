-- What came out of the ring so far was answered; everything else is unchanged.
use Rattle.std.proofs.Common.{◌≡◌, ◌+◌, length}
use Rattle.rtrb.specs.Ring.{received}
use Rattle.lnsd_links.specs.Sending.{HaveAnswered}
use Rattle.lnsd_links.proofs.writing.Sender.gather_refusals.Given as goal

abbrev pub invariant-loop : goal.invariant-loop
invariant-loop g l =
    HaveAnswered l.initial.self.is_broken (received l.initial.self.refusals) (received l.self.refusals) l.some l.initial.self.outgoing l.self.outgoing
    × ((length (received l.self.refusals) ≡ length (received l.initial.self.refusals) + l.counter)
    × ((l.self.inlet ≡ l.initial.self.inlet) × ((l.self.is_broken ≡ l.initial.self.is_broken)
    × ((l.self.keeps ≡ l.initial.self.keeps) × (l.self.name ≡ l.initial.self.name)))))
