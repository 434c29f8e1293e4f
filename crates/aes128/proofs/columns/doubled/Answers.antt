use Rattle.std.proofs.Common.{arith}
use Rattle.aes128.proofs.FieldLemmas.{two_times_low, two_times_high}
use Rattle.aes128.proofs.columns.doubled.Goals as goal

pub returns-then-byte-lt128 : goal.returns-then-byte-lt128
returns-then-byte-lt128 c = two_times_low c.args.byte (omega arith)

pub returns-else-byte-lt128 : goal.returns-else-byte-lt128
returns-else-byte-lt128 c = two_times_high c.args.byte (omega arith) (omega arith)
