use Rattle.sessions.proofs.Runs.{CanPut-fits}
use Rattle.sessions.proofs.laws.decided_records_may_be_put.Goals as goal

pub returns : goal.returns
returns c = CanPut-fits
