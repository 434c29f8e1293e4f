use Rattle.gate_log.proofs.Headers.{closed_is_older}
use Rattle.gate_log.proofs.laws.a_closed_area_is_older.Goals as goal

pub returns : goal.returns
returns c = closed_is_older
