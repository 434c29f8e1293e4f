use Rattle.std.proofs.Output.{has_written_append, has_written_of_eq}
use Rattle.std.proofs.Common.{arith, rules}
use Rattle.lw_types.proofs.UpperHex.{hex_text-nil, hex_text-take_more}
use Rattle.lw_types.proofs.hex_text.show.Goals as goal

pub loop-byte-init : goal.loop-byte-init
loop-byte-init g c = rw hex_text-nil (search rules)

pub loop-byte-preserved : goal.loop-byte-preserved
loop-byte-preserved g c = λ plain. has_written_of_eq _ _ _ _ _ (hex_text-take_more c.args.bytes.now c.loop-byte.byte-index (λ i. omega (arith, c.type_inv.bytes i)) c.loop-byte-test.true) (has_written_append _ _ _ _ _ _ (c.loop-byte.invariant plain) (search rules))
