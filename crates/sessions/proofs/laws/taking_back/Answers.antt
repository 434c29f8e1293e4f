use Rattle.sessions.proofs.Runs.{taken_back_all-applied_all}
use Rattle.sessions.proofs.laws.taking_back.Goals as goal

pub returns : goal.returns
returns c = taken_back_all-applied_all
