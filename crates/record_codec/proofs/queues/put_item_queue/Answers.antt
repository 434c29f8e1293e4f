use Rattle.record_codec.proofs.Writing.{keeps_more}
use Rattle.record_codec.proofs.queues.put_item_queue.Goals as goal

pub returns-in_err-put_item-clause-keeps : goal.returns-in_err-put_item-clause-keeps
returns-in_err-put_item-clause-keeps c = keeps_more _ _ _ _ c.loop-item.invariant.written c.in_err-put_item.ensures.keeps
