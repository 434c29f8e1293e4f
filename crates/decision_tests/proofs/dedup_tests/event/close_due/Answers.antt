use Rattle.decision_tests.proofs.Closing.{none_left, rest_opened, rest_shorter}
use Rattle.decision_tests.proofs.dedup_tests.event.close_due.Goals as goal

pub loop-heard-preserved : goal.loop-heard-preserved
loop-heard-preserved c = rest_opened c.args.now c.loop-heard.windows c.close.new.self c.in-Some.heard c.in-Some.ensures c.loop-heard.invariant

pub loop-heard-smaller : goal.loop-heard-smaller
loop-heard-smaller c = rest_shorter c.args.now c.loop-heard.windows c.close.new.self c.in-Some.heard c.in-Some.ensures

pub returns : goal.returns
returns c = none_left c.args.now c.loop-heard.windows c.close.new.self c.in_default.ensures.0 c.in_default.ensures.1 c.loop-heard.invariant
