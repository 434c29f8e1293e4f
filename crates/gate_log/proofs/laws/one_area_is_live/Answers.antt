use Rattle.gate_log.proofs.Unique.{one_live}
use Rattle.gate_log.proofs.laws.one_area_is_live.Goals as goal

pub returns : goal.returns
returns c = one_live
