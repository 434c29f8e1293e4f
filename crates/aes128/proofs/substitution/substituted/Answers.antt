use Rattle.std.proofs.Common.{arith}
use Rattle.aes128.proofs.SBoxLemmas.{table-s_box}
use Rattle.aes128.proofs.substitution.substituted.Goals as goal

pub returns : goal.returns
returns c = table-s_box c.args.byte (omega arith)
