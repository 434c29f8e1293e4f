-- The digits of the bytes so far were put.
use Rattle.std.proofs.Common.{◌≡◌, ◌++◌, take}
use Rattle.lw_types.specs.Hex.{hex_text}
use Rattle.gateway_wire.proofs.field.put_field.Given as goal

abbrev pub invariant-loop-byte : goal.invariant-loop-byte
invariant-loop-byte l = l.bytes.items ≡ l.initial.bytes.items ++ hex_text (take l.byte-index l.field)
