use Rattle.std.proofs.Common.{◌≡◌, ◌<◌, false, length, arith}
use Rattle.devices.specs.declared.heard.TheConstants.Hearings.{MOST}
use Rattle.devices.specs.Heard.{gateway_of, has_gateway}
use Rattle.devices.proofs.OneMore.{one_more}
use Rattle.devices.proofs.heard.Hearings.add.Goals as goal

pub invariant_of-self-2 : goal.invariant_of-self-2
invariant_of-self-2 c =
    let hs = c.self.inside.items.items in
    let room : length hs < MOST = omega arith in
    let none : has_gateway hs (gateway_of c.args.hearing) ≡ false = cc (c.has_gateway.ensures.tested, c.as_slice.ensures.value) in
    rw c.in_ok-push.ensures.items (one_more hs c.args.hearing c.self.invariant room c.requires none)
