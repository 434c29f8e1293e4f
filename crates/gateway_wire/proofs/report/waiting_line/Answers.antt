use Rattle.std.proofs.Common.{◌≡◌, ◌∷◌, [], ap, arith, codes, length, rules}
use Rattle.lw_types.specs.Hex.{eui_text, field_text}
use Rattle.lw_types.specs.Words.{line_of}
use Rattle.gateway_wire.proofs.LineLengths.{length-eui, length-field, length-line}
use Rattle.gateway_wire.proofs.report.waiting_line.Goals as goal

pub returns-clause-line : goal.returns-clause-line
unfolding line_of
returns-clause-line c = search rules

pub returns-clause-short : goal.returns-clause-short
returns-clause-short c =
    let words = eui_text c.args.dev_eui ∷ field_text c.args.commands.now ∷ [] in
    let line : c.new.result ≡ line_of (codes "macqueued" ∷ words) = returns-clause-line c in
    omega (arith, ap length line, length-line (codes "macqueued") words, length-eui c.args.dev_eui, length-field c.args.commands.now, c.as_slice.ensures.few)
