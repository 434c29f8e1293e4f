use Rattle.std.proofs.Common.{arith}
use Rattle.aes128.proofs.WordLemmas.{xor_from_bytes}
use Rattle.aes128.proofs.sums.xor.Goals as goal

pub returns : goal.returns
returns c =
    xor_from_bytes c.loop-i.bytes c.args.bytes.now c.args.mask.now (omega arith) (omega arith)
    (λ k h. c.loop-i.invariant.done k (omega arith))
