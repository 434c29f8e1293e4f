use Rattle.mac_commands.proofs.Queues.{parted_queue}
use Rattle.mac_commands.proofs.laws.what_fits_leaves_a_queue.Goals as goal

pub returns : goal.returns
returns c = λ queue room n q fit. parted_queue queue n q fit.whole
