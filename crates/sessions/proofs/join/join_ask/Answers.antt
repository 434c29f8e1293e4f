use Rattle.std.proofs.Common.{◌≡◌, ◌∙◌, ◌+◌, ◌*◌, ◌%◌, ◌^◌, ℕ, List, ap, rules}
use Rattle.std.specs.Prelude.{unwrap_or}
use Rattle.lw_types.specs.declared.identifiers.DevAddr.{DevAddr}
use Rattle.join_server.specs.declared.ask.JoinAsk.{JoinAsk}
use Rattle.devices.specs.Address.{dev_addr}
use Rattle.sessions.proofs.join.join_ask.Goals as goal

abbrev asking : ℕ → DevAddr → ℕ → ℕ → List ℕ → ℕ → JoinAsk
asking net_id addr offset delay request seq =
    record { net_id = net_id; dev_addr = addr; dl_settings = offset * 16; rx_delay = delay; request = request; transaction = seq % 2 ^ 32 }

pub returns : goal.returns
returns c =
    let d = c.args.device.now in
    let granted : c.map_or-granted.result ≡ unwrap_or d.activation.granted 0 = search rules in
    let addr = c.dev_addr.ensures ∙ ap (λ (last : ℕ). dev_addr c.args.net_id c.args.slot (last + 1)) granted in
    ap (λ (a : DevAddr). asking c.args.net_id a c.get.result d.rx_delay c.args.request c.args.seq) addr
    ∙ ap (λ (n : ℕ). asking c.args.net_id (dev_addr c.args.net_id c.args.slot (unwrap_or d.activation.granted 0 + 1)) n d.rx_delay c.args.request c.args.seq) c.get.ensures.value
