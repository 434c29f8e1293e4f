use Rattle.std.proofs.Common.{◌==◌, ◌∙◌, ap}
use Rattle.lw_types.specs.declared.identifiers.DevAddr.{DevAddr}
use Rattle.devices.specs.Address.{dev_addr}
use Rattle.uplinks.proofs.arrival.NetworkSlot.is_of.Goals as goal

pub returns : goal.returns
returns c =
    let place = c.args.self.now in
    let wanted = dev_addr place.net_id place.slot c.args.session.now.join_nonce in
    ap (λ (addr : DevAddr). c.dev_addr-address.result.0 == addr.0) (c.dev_addr.ensures ∙ ap (dev_addr place.net_id place.slot) c.get.ensures.value)
    ∙ ap (λ (addr : DevAddr). addr.0 == wanted.0) c.dev_addr-address.ensures
