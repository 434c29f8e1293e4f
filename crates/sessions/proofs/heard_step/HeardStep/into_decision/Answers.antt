use Rattle.sessions.proofs.Wholes.{one-decision}
use Rattle.sessions.proofs.heard_step.HeardStep.into_decision.Goals as goal

pub returns : goal.returns
returns c = λ is. one-decision c.args.self c.args.heard _ is
