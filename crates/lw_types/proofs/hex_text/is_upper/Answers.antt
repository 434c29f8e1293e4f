use Rattle.std.proofs.Common.{rules}
use Rattle.lw_types.proofs.hex_text.is_upper.Goals as goal

pub returns : goal.returns
returns c = search rules
