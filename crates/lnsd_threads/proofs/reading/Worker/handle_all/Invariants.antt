-- The messages that aren't left were handled, after all copies were paid for.
use Rattle.std.proofs.Common.{◌≡◌, ◌++◌, List}
use Rattle.link_messages.specs.declared.message.Message.{Message}
use Rattle.lnsd_threads.specs.Hearing.{AreHeard, ArePaidFor, copies_in}
use Rattle.lnsd_threads.proofs.reading.Worker.handle_all.Given as goal

abbrev pub invariant-loop-message : goal.invariant-loop-message
invariant-loop-message g l =
    ((heard : List Message) × ((l.fn.fed.messages.items ≡ heard ++ l.message-iterator.rest.items)
    × AreHeard l.fn.self.feeder.peer heard l.fn.self.seat l.fn.self.refusals l.self.seat l.self.refusals))
    × ((l.self ≡ record l.fn.self { seat = l.self.seat; calls = l.self.calls; refusals = l.self.refusals; allowance = l.self.allowance })
    × ArePaidFor (copies_in l.fn.fed.messages.items) l.fn.self.allowance l.self.allowance)
