use Rattle.std.proofs.Common.{◌∷◌, arith, codes, length}
use Rattle.std.specs.Fmt.{decimal}
use Rattle.std.proofs.lemmas.Fmt.{length-decimal-le, length_signed_le}
use Rattle.lw_types.specs.Hex.{eui_text, field_text}
use Rattle.gateway_wire.specs.AppLine.{heard_words}
use Rattle.gateway_wire.proofs.LineLengths.{length-eui, length-field, length-line}
use Rattle.gateway_wire.proofs.uplink.line_is_short.Goals as goal

pub returns : goal.returns
returns c =
    let up = c.args.up.now in
    let best = up.best.now in
    let heard = heard_words up.copies best in
    let words = eui_text up.session.now.dev_eui ∷ decimal up.session.now.join_nonce ∷ decimal up.counter ∷ decimal up.port ∷ field_text up.payload.now ∷ heard in
    let ranges = c.numbers_are_in_range.ensures in
    let nonce = length-decimal-le 8 up.session.now.join_nonce (omega arith) (omega (arith, c.get-nonce.ensures.range)) (omega (arith, c.get-nonce.ensures.range)) in
    let counter = length-decimal-le 10 up.counter (omega arith) (omega (arith, ranges.counter)) (omega (arith, ranges.counter)) in
    let port = length-decimal-le 3 up.port (omega arith) (omega (arith, c.get-port.ensures.most)) (omega (arith, c.get-port.ensures.most)) in
    let copies = length-decimal-le 2 up.copies (omega arith) (omega (arith, c.get-copies.ensures.most)) (omega (arith, c.get-copies.ensures.most)) in
    let frequency = length-decimal-le 10 best.frequency (omega arith) (omega (arith, ranges.frequency)) (omega (arith, ranges.frequency)) in
    let data_rate = length-decimal-le 3 best.data_rate (omega arith) (omega (arith, ranges.data_rate)) (omega (arith, ranges.data_rate)) in
    let snr = length_signed_le 5 best.snr (omega (arith, ranges.snr)) (omega (arith, ranges.snr)) in
    let rssi = length_signed_le 5 best.rssi (omega (arith, ranges.rssi)) (omega (arith, ranges.rssi)) in
    let payload = length-field up.payload.now in
    let parts = length-line (codes "up") words in
    omega (arith, parts, length-eui up.session.now.dev_eui, nonce, counter, port, payload, c.as_slice-payload.ensures.few, copies, length-eui best.gateway, frequency, data_rate, snr, rssi)
