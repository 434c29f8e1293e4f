use Rattle.std.proofs.Common.{rules}
use Rattle.frame_crypt.proofs.join.seal_block.Goals as goal

pub returns : goal.returns
returns c = search rules
