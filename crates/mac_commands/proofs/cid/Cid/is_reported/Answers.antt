use Rattle.std.proofs.Common.{rules}
use Rattle.mac_commands.proofs.cid.Cid.is_reported.Goals as goal

pub returns : goal.returns
returns c = search rules
