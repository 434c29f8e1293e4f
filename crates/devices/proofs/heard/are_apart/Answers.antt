use Rattle.std.proofs.Common.{ap, refl, sym, ◌∙◌}
use Rattle.std.proofs.lemmas.Bool.{false≢true}
use Rattle.std.proofs.lemmas.List.{get_or_default}
use Rattle.devices.specs.Heard.{gateway_of}
use Rattle.devices.proofs.Gateways.{apart_all, apart_more, not_apart}
use Rattle.devices.proofs.heard.are_apart.Goals as goal

pub returns-then-has_gateway : goal.returns-then-has_gateway
returns-then-has_gateway c =
    let xs = c.args.hearings.now in
    let lt = c.loop-i-test.true in
    (λ no. absurd (false≢true no), λ apart. absurd (not_apart xs c.loop-i.i _ lt (λ d. ap gateway_of (get_or_default xs c.loop-i.i d _ lt)) (c.has_gateway.ensures.any.0 c.if-has_gateway.true) apart))

pub loop-i-preserved : goal.loop-i-preserved
loop-i-preserved c =
    let xs = c.args.hearings.now in
    let lt = c.loop-i-test.true in
    apart_more xs c.loop-i.i _ lt (λ d. ap gateway_of (get_or_default xs c.loop-i.i d _ lt)) c.loop-i.invariant (λ any. false≢true (sym c.if-has_gateway.false ∙ c.has_gateway.ensures.any.1 any))

pub returns : goal.returns
returns c = (λ yes. apart_all c.args.hearings.now c.loop-i.i c.loop-i-test.false c.loop-i.invariant, λ apart. refl)
