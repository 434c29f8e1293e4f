use Rattle.record_codec.proofs.Loop.{HasBuilt}
use Rattle.record_codec.proofs.queues.ItemParts.queue.Given as goal

abbrev pub invariant-loop : goal.invariant-loop
invariant-loop l = HasBuilt l.self.count l.self.bytes.now l.counter l.fields.rest.now l.queue
