use Rattle.std.proofs.Common.{◌≡◌, ◌∷◌, [], ap, arith, codes, length, rules}
use Rattle.std.specs.Fmt.{decimal}
use Rattle.std.proofs.lemmas.Fmt.{length-decimal-le}
use Rattle.lw_types.specs.Words.{line_of}
use Rattle.gateway_wire.proofs.LineLengths.{length-line}
use Rattle.gateway_wire.proofs.answer.line_of_number.Goals as goal

pub returns-clause-line : goal.returns-clause-line
unfolding line_of
returns-clause-line c = search rules

pub returns-clause-short : goal.returns-clause-short
returns-clause-short c =
    let line : c.new.result ≡ line_of (codes "refused" ∷ decimal c.args.number ∷ []) = returns-clause-line c in
    let digits = length-decimal-le 3 c.args.number (omega arith) (omega (arith, c.ranges.number.fits)) (omega (arith, c.ranges.number.fits)) in
    omega (arith, ap length line, length-line (codes "refused") (decimal c.args.number ∷ []), digits)
