use Rattle.std.proofs.Common.{rules}
use Rattle.link_messages.proofs.read_message.read_copy.Goals as goal

pub returns : goal.returns
returns c = search rules
