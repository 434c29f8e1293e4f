use Rattle.decision_tests.proofs.Closing.{taken_opened}
use Rattle.decision_tests.proofs.dedup_tests.event.event.Goals as goal

pub returns-in-Ok : goal.returns-in-Ok
returns-in-Ok c = taken_opened c.args.now c.close_due.new.windows c.add.new.self c.args.copy c.a_copy_makes_no_window_due.ensures c.in_ok-close_due.ensures c.in-Ok.ensures.added
