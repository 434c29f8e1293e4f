use Rattle.gate_log.proofs.Spelling.{head_spelled}
use Rattle.gate_log.proofs.layout.BatchHead.from_bytes.Goals as goal

pub returns-clause-spelled : goal.returns-clause-spelled
returns-clause-spelled c = head_spelled c.args.bytes.now _ c.requires c.u32_at.ensures c.u64_at.ensures c.u16_at.ensures
