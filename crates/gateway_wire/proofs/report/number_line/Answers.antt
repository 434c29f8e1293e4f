use Rattle.std.proofs.Common.{◌≡◌, ◌∷◌, [], ap, arith, length, rules}
use Rattle.std.specs.Fmt.{decimal}
use Rattle.std.proofs.lemmas.Fmt.{length-decimal-le}
use Rattle.lw_types.specs.Hex.{eui_text}
use Rattle.lw_types.specs.Words.{line_of}
use Rattle.gateway_wire.proofs.LineLengths.{length-eui, length-line}
use Rattle.gateway_wire.proofs.report.number_line.Goals as goal

pub returns-clause-line : goal.returns-clause-line
unfolding line_of
returns-clause-line c = search rules

pub returns-clause-short : goal.returns-clause-short
returns-clause-short c =
    let words = eui_text c.args.dev_eui ∷ decimal c.args.number ∷ [] in
    let line : c.new.result ≡ line_of (c.args.name.now ∷ words) = returns-clause-line c in
    let digits = length-decimal-le 10 c.args.number (omega arith) (omega (arith, c.ranges.number.fits)) (omega (arith, c.ranges.number.fits)) in
    omega (arith, ap length line, length-line c.args.name.now words, length-eui c.args.dev_eui, digits)
