use Rattle.sessions.proofs.Wholes.{whole_is}
use Rattle.sessions.proofs.decision.Decision.into_placed.Goals as goal

pub returns-clause-rest : goal.returns-clause-rest
returns-clause-rest c = whole_is c.args.self _ _
