use Rattle.std.proofs.Common.{rules}
use Rattle.devices.proofs.activation.Activation.begin.Goals as goal

pub returns : goal.returns
returns c = search rules
