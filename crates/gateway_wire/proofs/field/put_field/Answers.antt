use Rattle.std.proofs.Common.{◌≡◌, ◌+◌, ◌++◌, ◌∷◌, ◌∙◌, List, [], ap, append-nil, append_assoc, sym, take, ℕ}
use Rattle.lw_types.specs.Hex.{hex_text}
use Rattle.gateway_wire.proofs.HexPut.{hex_text-nil, hex_text-take_more}
use Rattle.gateway_wire.proofs.field.put_field.Goals as goal

pub loop-byte-init : goal.loop-byte-init
loop-byte-init c =
    let old = c.args.bytes.now.items in
    sym (append-nil old) ∙ ap (λ (t : List ℕ). old ++ t) (sym hex_text-nil)

pub loop-byte-preserved : goal.loop-byte-preserved
loop-byte-preserved c =
    let field = c.args.field.now in
    let old = c.args.bytes.now.items in
    let i = c.loop-byte.byte-index in
    let two = c.digit.result ∷ c.digit-in-loop-byte.result ∷ [] in
    let more = hex_text-take_more field i c.loop-byte-test.true in
    let high = c.digit.ensures in
    let low = c.digit-in-loop-byte.ensures in
    let digits : hex_text (take i field) ++ two ≡ hex_text (take (i + 1) field) = cc in
    c.in_ok-extend_from_slice.ensures.items
    ∙ (ap (λ (t : List ℕ). t ++ two) c.loop-byte.invariant ∙ (append_assoc old (hex_text (take i field)) two ∙ ap (λ (t : List ℕ). old ++ t) digits))
