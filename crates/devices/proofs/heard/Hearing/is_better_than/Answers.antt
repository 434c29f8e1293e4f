use Rattle.std.proofs.Common.{rules}
use Rattle.devices.proofs.heard.Hearing.is_better_than.Goals as goal

pub returns : goal.returns
returns c = search rules
