use Rattle.std.proofs.Common.{◌∙◌, get_or, length, refl, sym, ap}
use Rattle.std.proofs.lemmas.Option.{slice_get_read}
use Rattle.sessions.proofs.Placing.{found_name, found_within}
use Rattle.sessions.proofs.table.Table.device_of.Goals as goal

pub returns : goal.returns
returns c =
    let devices = c.args.self.now.devices in
    let slot = c.in_ok-slot.slot in
    let device = c.index-devices-slot.result in
    let found = sym c.in_ok-slot.ensures in
    let within = found_within c.args.dev_eui.0 slot devices found in
    let at =
    slice_get_read devices (length devices) slot device refl within
    (c.index-devices-slot.is ∙ ap (λ ds. get_or ds slot device) c.devices.ensures.devices) in
    (found, at, found_name c.args.dev_eui.0 slot device devices found at)
