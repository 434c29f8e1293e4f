use Rattle.std.proofs.Common.{ap, ◌∙◌}
use Rattle.std.specs.Result.{result_ok}
use Rattle.hex.specs.Hex.{decode_sized}
use Rattle.lw_types.proofs.UpperHex.{read_array_found, digits_from_hex, decode_sized-hex_text}
use Rattle.lw_types.proofs.hex_text.read_array.Goals as goal

pub returns-clause-found : goal.returns-clause-found
returns-clause-found g c = rw (c.ok.ensures.value, c.from_hex.ensures) (read_array_found c.args.text.now g.row.N (digits_from_hex _ (c.is_hex.ensures.0 c.if-not-is_hex.false)).1)

pub returns-clause-only : goal.returns-clause-only
returns-clause-only g c = λ bytes fits len e. c.ok.ensures.value ∙ ap result_ok (c.from_hex.ensures ∙ ap (λ t. decode_sized t g.row.N) e ∙ decode_sized-hex_text bytes g.row.N fits len)
