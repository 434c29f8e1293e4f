use Rattle.std.proofs.Common.{rules}
use Rattle.flusher.proofs.chaining.take.Goals as goal

pub returns : goal.returns
returns g c = search rules
