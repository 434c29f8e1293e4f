use Rattle.std.proofs.Common.{◌≡◌, ℕ, List, Option, Some, Result, IfOk, subst, sym}
use Rattle.lw_types.specs.declared.direction.Direction.TheVariants.{Up}
use Rattle.lw_types.specs.declared.identifiers.DevAddr.{DevAddr}
use Rattle.frame_crypt.specs.Frames.{crypted_payload}
use Rattle.phy_payload.specs.declared.contents.PortPayload.{PortPayload}
use Rattle.devices.specs.declared.activation.CurrentSession.{CurrentSession}
use Rattle.uplinks.specs.Accepted.{mac_bytes}
use Rattle.uplinks.proofs.accepted.commands.Goals as goal

-- what port 0 carries is decrypted under the NwkSKey
on_port_0 : {E : Type 0} (addr : DevAddr) (s : CurrentSession) (opts : List ℕ) (message : Option PortPayload) (sent : PortPayload) (r : Result (List ℕ) E)
    → message ≡ Some sent → sent.f_port ≡ 0 → IfOk r (λ bytes. bytes ≡ crypted_payload s.session.nwk_skey.0 Up addr.0 s.last_up sent.frm_payload)
    → IfOk r (λ bytes. bytes ≡ mac_bytes addr s opts message)
on_port_0 addr s opts message sent r is port h = rw (is, port) h

pub returns-in-Some : goal.returns-in-Some
returns-in-Some c =
    let frame = c.args.frame.now in
    let seen = c.in-Some.port_payload in
    let sent : PortPayload = record { f_port = seen.f_port; frm_payload = seen.frm_payload.now } in
    on_port_0 frame.dev_addr c.args.session.now frame.contents.f_opts frame.contents.port_payload sent c.decrypted.result
    (sym c.in-Some.ensures.port_payload) c.if-port_payload-eq0.true
    (subst (λ (addr : DevAddr). IfOk c.decrypted.result (λ bytes. bytes ≡ crypted_payload c.args.session.now.session.nwk_skey.0 Up addr.0 c.args.session.now.last_up seen.frm_payload.now))
    c.dev_addr.ensures c.decrypted.ensures)
