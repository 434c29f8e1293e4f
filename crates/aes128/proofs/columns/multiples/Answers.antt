use Rattle.std.proofs.Common.{arith}
use Rattle.aes128.proofs.WordLemmas.{multiples_by_doubling}
use Rattle.aes128.proofs.columns.multiples.Goals as goal

pub returns : goal.returns
returns c = multiples_by_doubling c.args.byte _ _ _ (omega arith) c.doubled-two.ensures c.doubled-four.ensures c.doubled-eight.ensures
