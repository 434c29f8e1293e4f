use Rattle.std.proofs.Common.{◌≡◌, ◌∷◌, [], ap, arith, codes, length, rules}
use Rattle.std.specs.Fmt.{decimal}
use Rattle.std.proofs.lemmas.Fmt.{length-decimal-le}
use Rattle.lw_types.specs.Hex.{eui_text, field_text}
use Rattle.lw_types.specs.Words.{line_of}
use Rattle.gateway_wire.proofs.LineLengths.{length-eui, length-field, length-line}
use Rattle.gateway_wire.proofs.report.sent_line.Goals as goal

pub returns-clause-line : goal.returns-clause-line
unfolding line_of
returns-clause-line c = search rules

pub returns-clause-short : goal.returns-clause-short
returns-clause-short c =
    let words = eui_text c.args.dev_eui ∷ decimal c.args.join_nonce ∷ field_text c.args.commands.now ∷ [] in
    let line : c.new.result ≡ line_of (codes "mac" ∷ words) = returns-clause-line c in
    let nonce = length-decimal-le 8 c.args.join_nonce (omega arith) (omega (arith, c.get-nonce.ensures.range)) (omega (arith, c.get-nonce.ensures.range)) in
    omega (arith, ap length line, length-line (codes "mac") words, length-eui c.args.dev_eui, length-field c.args.commands.now, nonce, c.as_slice.ensures.few)
