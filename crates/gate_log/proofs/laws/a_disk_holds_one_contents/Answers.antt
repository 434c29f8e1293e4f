use Rattle.gate_log.proofs.Unique.{one_contents}
use Rattle.gate_log.proofs.laws.a_disk_holds_one_contents.Goals as goal

pub returns : goal.returns
returns c = one_contents
