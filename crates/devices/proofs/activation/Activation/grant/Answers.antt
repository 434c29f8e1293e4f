use Rattle.std.proofs.Common.{ap}
use Rattle.devices.specs.Activation.{with_grant}
use Rattle.devices.proofs.activation.Activation.grant.Goals as goal

pub returns : goal.returns
returns c = ap (λ g. with_grant g c.args.session) c.self.view_is
