use Rattle.std.proofs.Common.{arith}
use Rattle.phy_payload.proofs.FrameLaws.{is_found, is_only, is_refused}
use Rattle.phy_payload.proofs.read.decode.Goals as goal

pub returns-clause-found : goal.returns-clause-found
returns-clause-found c = is_found c.args.bytes.now c.read_owned.result (λ i. omega (arith, c.type_inv.bytes i)) c.read_owned.ensures

pub returns-clause-only : goal.returns-clause-only
returns-clause-only c = λ frame h. is_only c.args.bytes.now c.read_owned.result frame h c.read_owned.ensures

pub returns-clause-refused : goal.returns-clause-refused
returns-clause-refused c = is_refused c.args.bytes.now c.read_owned.result (λ i. omega (arith, c.type_inv.bytes i)) c.read_owned.ensures
