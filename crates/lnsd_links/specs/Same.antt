-- Names that are the same.
use Rattle.std.specs.Prelude.{Bool, false, nat_eq}
use Rattle.lw_types.specs.declared.identifiers.Eui.{Eui}
use Rattle.gateway_wire.specs.declared.recipient.Recipient.{Recipient}
use Rattle.gateway_wire.specs.declared.recipient.Recipient.TheVariants.{Gateway, Application}

abbrev pub is_same_eui : Eui → Eui → Bool
is_same_eui one other = nat_eq one.0 other.0

abbrev pub is_same_name : Recipient → Recipient → Bool
is_same_name (Gateway one) (Gateway other) = is_same_eui other one
is_same_name (Application one) (Application other) = nat_eq one other
is_same_name (Gateway one) (Application other) = false
is_same_name (Application one) (Gateway other) = false
