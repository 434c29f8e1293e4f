use Rattle.std.proofs.Common.{◌≡◌, ◌∷◌, ◌++◌, ◌∙◌, ap, arith, length, rules, sym}
use Rattle.lw_types.specs.Hex.{field_text}
use Rattle.lw_types.specs.Words.{line_of}
use Rattle.gateway_wire.specs.AppLine.{heard_words}
use Rattle.gateway_wire.specs.UpLine.{head_of_up}
use Rattle.gateway_wire.proofs.UpLines.{around_payload}
use Rattle.gateway_wire.proofs.uplink.up_line.Goals as goal

pub returns-clause-line : goal.returns-clause-line
returns-clause-line c =
    let up = c.args.up.now in
    let text : c.new.result ≡ line_of (head_of_up up) ++ 32 ∷ (field_text up.payload.now ++ 32 ∷ line_of (heard_words up.copies up.best.now)) = search rules in
    text ∙ sym (around_payload up)

pub returns-clause-short : goal.returns-clause-short
returns-clause-short c = omega (arith, ap length (returns-clause-line c), c.line_is_short.ensures)
