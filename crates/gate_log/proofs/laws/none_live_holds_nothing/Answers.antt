use Rattle.gate_log.proofs.Unique.{none_live}
use Rattle.gate_log.proofs.laws.none_live_holds_nothing.Goals as goal

pub returns : goal.returns
returns c = none_live
