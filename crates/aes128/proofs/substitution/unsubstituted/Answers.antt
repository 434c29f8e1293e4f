use Rattle.std.proofs.Common.{arith}
use Rattle.aes128.proofs.InverseLemmas.{table-inv_s_box}
use Rattle.aes128.proofs.substitution.unsubstituted.Goals as goal

pub returns : goal.returns
returns c = table-inv_s_box c.args.byte (omega arith)
