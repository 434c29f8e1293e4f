use Rattle.mac_commands.proofs.Queues.{is_queue_so}
use Rattle.mac_commands.proofs.laws.queues_are_found.Goals as goal

pub returns : goal.returns
returns c = is_queue_so
