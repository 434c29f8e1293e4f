use Rattle.std.proofs.Common.{rules}
use Rattle.world.proofs.life.Life.is_full.Goals as goal

pub returns : goal.returns
returns g c = search rules
