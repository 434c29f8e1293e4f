use Rattle.std.proofs.Common.{refl}
use Rattle.gate_log.proofs.Spelling.{header_spelled}
use Rattle.gate_log.proofs.layout.Header.from_bytes.Goals as goal

pub returns-clause-spelled : goal.returns-clause-spelled
returns-clause-spelled c = header_spelled c.args.bytes.now _ c.requires refl c.u64_at.ensures c.u64_at-2.ensures c.u32_at.ensures c.u64_at-3.ensures
