use Rattle.std.proofs.Common.{length, length-take, ap, arith}
use Rattle.gate_log.proofs.Spelling.{length-head_bytes}
use Rattle.gate_log.proofs.layout.BatchHead.put.Goals as goal

pub copy_from_slice-requires : goal.copy_from_slice-requires
copy_from_slice-requires c = omega (arith, length-take 14 c.args.bytes.now, c.requires, ap length c.to_bytes.ensures, length-head_bytes c.args.self)
