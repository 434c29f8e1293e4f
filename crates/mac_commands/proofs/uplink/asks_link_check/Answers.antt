use Rattle.std.proofs.Common.{◌∙◌, sym}
use Rattle.mac_commands.specs.Front.{front_command}
use Rattle.mac_commands.proofs.CommandsIn.{asks, asks_behind, none_asks}
use Rattle.mac_commands.proofs.uplink.asks_link_check.Goals as goal

pub returns-then-is_link_check : goal.returns-then-is_link_check
returns-then-is_link_check c =
    let found = c.in-Some.ensures.found in
    sym (c.loop-front.invariant ∙ asks _ _ (front_command c.in-Some.front) found.whole found.spelled (sym c.is_link_check.ensures ∙ c.if-is_link_check.true))

pub loop-front-preserved : goal.loop-front-preserved
loop-front-preserved c =
    let found = c.in-Some.ensures.found in
    c.loop-front.invariant ∙ asks_behind _ _ (front_command c.in-Some.front) found.whole found.spelled (sym c.is_link_check.ensures ∙ c.if-is_link_check.false)

pub returns : goal.returns
returns c = sym (c.loop-front.invariant ∙ none_asks _ c.in_default.ensures.none)
