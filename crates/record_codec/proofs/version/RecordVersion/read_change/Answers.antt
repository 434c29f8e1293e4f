use Rattle.std.proofs.Common.{arith}
use Rattle.record_codec.specs.Parts.{groups_of_parts}
use Rattle.record_codec.proofs.ChangeLaws.{reads_change, reads_none}
use Rattle.record_codec.proofs.version.RecordVersion.read_change.Goals as goal

pub returns-in-Some : goal.returns-in-Some
returns-in-Some c =
    reads_change c.args.self c.args.before.now c.args.bytes.now (groups_of_parts c.in-Some.groups) c.device.result (λ i. omega (arith, c.type_inv.bytes i)) c.in-Some.ensures.field c.as_slice-items.ensures.few
    c.as_slice-commands.ensures.whole c.in-Some.ensures.new c.device.ensures

pub returns-in-None : goal.returns-in-None
returns-in-None c = reads_none c.args.self c.args.before.now c.args.bytes.now c.in-None.ensures.field
