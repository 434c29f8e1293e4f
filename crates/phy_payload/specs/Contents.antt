-- What a data frame carries.
use Rattle.std.specs.Prelude.{ℕ, List, length, Option, Some, None}
use Rattle.phy_payload.specs.declared.contents.PortPayload.{PortPayload}

-- FOpts, and FPort with FRMPayload if there is a port
pub record Carried : Type 0 where
  pub f_opts : List ℕ
  pub port_payload : Option PortPayload

abbrev pub carried_contents : List ℕ → Option PortPayload → Carried
carried_contents opts sent = record { f_opts = opts; port_payload = sent }

-- the number of bytes of FRMPayload, 0 if there is no port
abbrev pub frm_payload_len : Option PortPayload → ℕ
frm_payload_len None = 0
frm_payload_len (Some sent) = length sent.frm_payload
