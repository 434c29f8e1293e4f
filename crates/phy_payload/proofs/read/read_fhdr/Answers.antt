use Rattle.std.proofs.Common.{rules}
use Rattle.phy_payload.proofs.read.read_fhdr.Goals as goal

pub returns-clause-field : goal.returns-clause-field
returns-clause-field c = search rules
