use Rattle.std.proofs.Common.{arith}
use Rattle.record_codec.specs.Parts.{device_of_parts}
use Rattle.record_codec.proofs.RecordLaws.{reads_none, reads_record}
use Rattle.record_codec.proofs.version.RecordVersion.read_device.Goals as goal

pub returns-in-Some : goal.returns-in-Some
returns-in-Some c = reads_record c.args.self c.args.bytes.now (device_of_parts c.in-Some.parts) c.device.result (λ i. omega (arith, c.type_inv.bytes i)) c.in-Some.ensures.field c.in-Some.ensures.whole c.device.ensures

pub returns-in-None : goal.returns-in-None
returns-in-None c = reads_none c.args.self c.args.bytes.now c.in-None.ensures.field
