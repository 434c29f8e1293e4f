use Rattle.hex.proofs.HexLemmas.{decode_of-same}
use Rattle.lw_types.proofs.UpperHex.{written_back, digits_from_hex, decode_of-hex_text}
use Rattle.lw_types.proofs.hex_text.read_hex.Goals as goal

pub returns-in-Ok-clause-found : goal.returns-in-Ok-clause-found
returns-in-Ok-clause-found c = written_back c.args.text.now c.in-Ok.bytes.items (digits_from_hex _ (c.is_hex.ensures.0 c.if-not-is_hex.false)).1 c.in-Ok.ensures.ok

pub returns-in-Ok-clause-only : goal.returns-in-Ok-clause-only
returns-in-Ok-clause-only c = λ bytes fits e. decode_of-same _ _ _ c.in-Ok.ensures.ok (rw e (decode_of-hex_text bytes fits))
