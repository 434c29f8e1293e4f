use Rattle.std.proofs.Common.{rules, sym}
use Rattle.gateway_wire.proofs.report.report_line.Goals as goal

pub returns-in-Provisioned : goal.returns-in-Provisioned
returns-in-Provisioned c =
    let slot = sym c.from.ensures in
    rw c.in-Provisioned.is (rw slot (search rules))
