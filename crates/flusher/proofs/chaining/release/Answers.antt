use Rattle.std.proofs.Common.{◌∙◌, ap}
use Rattle.sessions.specs.Decision.{effects_in}
use Rattle.flusher.proofs.chaining.release.Goals as goal

pub returns-clause-released : goal.returns-clause-released
returns-clause-released g c = (c.release-released.result, (c.release-released.ensures.effects ∙ ap effects_in c.new-batch.ensures, c.out.ensures))
