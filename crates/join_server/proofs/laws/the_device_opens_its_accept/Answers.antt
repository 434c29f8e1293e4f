use Rattle.std.proofs.Common.{inr, refl}
use Rattle.join_server.proofs.Fields.{accept_bytes}
use Rattle.join_server.specs.Join.{accept_fields, grant_of}
use Rattle.join_server.proofs.laws.the_device_opens_its_accept.Goals as goal

-- src/laws.rt:10:1
pub returns : goal.returns
returns c state ask key settings delay =
    let fields = accept_fields (grant_of state ask).join_nonce ask in
    c.a_sealed_accept_is_opened.ensures.opened state.app_key.0 fields key (inr refl, accept_bytes (grant_of state ask).join_nonce ask settings delay)
