use Rattle.std.proofs.Common.{◌≡◌, ◌∙◌, Ok, sym, ap, arith}
use Rattle.phy_payload.specs.declared.phy.Phy.TheVariants.{JoinRequest}
use Rattle.phy_payload.specs.Reading.{phy_at}
use Rattle.phy_payload.specs.Seen.{phy_of}
use Rattle.sessions.proofs.table.hear.read_frame.Goals as goal

pub request_bytes-requires : goal.request_bytes-requires
request_bytes-requires c =
    let bytes = c.args.bytes.now in
    let request = c.in-Ok-JoinRequest.field-0-0 in
    let read : phy_at bytes ≡ Ok (JoinRequest request) = sym c.in-Ok-JoinRequest.ensures ∙ ap (λ frame. Ok (phy_of frame)) c.in-Ok-JoinRequest.field-0-is in
    c.a_join_request_has_23_bytes.ensures.shape bytes request
    (c.reading_is_the_grammar.ensures.read bytes (JoinRequest request) (λ i. omega (arith, c.type_inv.bytes i)) read)
