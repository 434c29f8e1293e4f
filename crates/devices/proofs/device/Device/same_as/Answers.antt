use Rattle.std.proofs.Common.{◌∙◌, sym}
use Rattle.devices.proofs.Equal.{device_decides}
use Rattle.devices.proofs.device.Device.same_as.Goals as goal

pub returns : goal.returns
returns c =
    let d = device_decides c.args.self.now c.args.other.now in
    (λ same. d.0 (sym c.eq.ensures ∙ same), λ same. c.eq.ensures ∙ d.1 same)
