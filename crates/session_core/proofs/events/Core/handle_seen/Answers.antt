use Rattle.std.proofs.Common.{◌∙◌, Some, ap, sym, subst}
use Rattle.session_core.specs.Calls.{work_of}
use Rattle.session_core.specs.Core.{CoreState}
use Rattle.session_core.proofs.Seen.{seen-own, seen-starved}
use Rattle.session_core.proofs.events.Core.handle_seen.Goals.{in-Ok, in-Err}
use Rattle.session_core.proofs.events.Core.handle_seen.Goals as goal

pub returns-clause-turn : goal.returns-clause-turn
returns-clause-turn c = elim c.match-begin.branch [
  | in-Ok w ↦
      seen-own c.args.self.now c.begin.new.self c.match-begin.self c.args.moment c.args.event _ c.args.observed.now c.begin.new.observed c.begin.ensures.closed
      c.made-from.ensures.count c.made-to.ensures.count w.in-Ok.ensures.due
      (subst (λ (s : CoreState). work_of c.args.event c.begin.new.self c.match-begin.refused s) (sym w.self-is)
      (subst (λ r. work_of c.args.event c.begin.new.self r w.work-refused.new.self) (sym w.refused-is) w.work-refused.ensures))
  | in-Err w ↦
      seen-starved c.args.self.now c.begin.new.self c.match-begin.self c.args.moment c.args.event _ c.args.observed.now c.begin.new.observed c.begin.ensures.closed
      c.made-from.ensures.count c.made-to.ensures.count w.in-Err.ensures.due.1 (w.refused-is ∙ ap Some w.in-Err.ensures.due.0) w.self-is
]
