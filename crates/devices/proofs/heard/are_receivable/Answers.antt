use Rattle.std.proofs.Common.{arith, refl}
use Rattle.std.proofs.lemmas.List.{get_or_default}
use Rattle.devices.proofs.Gateways.{receivable_more}
use Rattle.devices.proofs.heard.are_receivable.Goals as goal

pub loop-hearing-preserved : goal.loop-hearing-preserved
loop-hearing-preserved c =
    let xs = c.args.hearings.now in
    let lt = c.loop-hearing-test.true in
    receivable_more xs c.loop-hearing.hearing-index _ lt (λ d. get_or_default xs c.loop-hearing.hearing-index d _ lt) c.loop-hearing.invariant (c.is_receivable.ensures.0 c.if-not-is_receivable.false)

pub returns : goal.returns
returns c = (λ yes k d lt. c.loop-hearing.invariant d k (omega arith), λ all. refl)
