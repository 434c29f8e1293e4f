use Rattle.record_codec.proofs.Loop.{HasRead}
use Rattle.record_codec.proofs.queues.pass_items.Given as goal

abbrev pub invariant-loop : goal.invariant-loop
invariant-loop l = HasRead l.count l.fn.fields.rest.now l.counter l.fields.rest.now
