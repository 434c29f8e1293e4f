use Rattle.link_messages.proofs.Telling.{tells}
use Rattle.link_messages.proofs.feeder.message_of_content.Goals as goal

pub returns : goal.returns
returns c = tells c.args.peer c.args.content.now c.read_message.result (λ i. (c.type_inv.content i).fits) c.read_message.ensures
