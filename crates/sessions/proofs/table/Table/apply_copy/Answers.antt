use Rattle.std.proofs.Common.{sym, subst}
use Rattle.devices.specs.declared.device.Device.{Device}
use Rattle.sessions.specs.Table.{CanPlace}
use Rattle.sessions.proofs.Runs.{CanPlace-fits}
use Rattle.sessions.proofs.table.Table.apply_copy.Goals as goal

pub set_device-requires : goal.set_device-requires
set_device-requires c =
    let t = c.args.self.now in
    let d = c.args.decision.now in
    subst (λ (x : Device). CanPlace t d.slot x) (sym c.requires.copy) (CanPlace-fits t d c.requires.fits)
