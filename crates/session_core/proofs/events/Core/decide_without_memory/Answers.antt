use Rattle.std.proofs.Common.{◌∙◌, Some, Err, ap, sym, subst}
use Rattle.session_core.specs.Core.{CoreState}
use Rattle.session_core.specs.Events.{Asks, Handles}
use Rattle.session_core.proofs.Seen.{has-closed}
use Rattle.session_core.proofs.Windows.{turned-own, turned-starved}
use Rattle.session_core.proofs.events.Core.decide_without_memory.Goals.{in-Ok, in-Err}
use Rattle.session_core.proofs.events.Core.decide_without_memory.Goals as goal

pub returns-clause-turn : goal.returns-clause-turn
returns-clause-turn c = elim c.match-begin.branch [
  | in-Ok w ↦
      turned-own c.args.self.now c.begin.new.self c.match-begin.self c.args.moment (Asks c.args.command.now) _ (has-closed _ _ _ _ c.begin.ensures.closed) w.in-Ok.ensures.due
      (subst (λ (s : CoreState). Handles c.begin.new.self c.args.command.now (Err c.match-begin.refused) s) (sym w.self-is)
      (subst (λ e. Handles c.begin.new.self c.args.command.now (Err e) w.pass_over-refused.new.self) (sym w.refused-is) w.pass_over-refused.ensures))
      c.made-from.ensures.count c.made-to.ensures.count
  | in-Err w ↦
      turned-starved c.args.self.now c.begin.new.self c.match-begin.self c.args.moment (Asks c.args.command.now) _ (has-closed _ _ _ _ c.begin.ensures.closed) w.in-Err.ensures.due.1
      (ap Some (w.refused-is ∙ w.in-Err.ensures.due.0)) w.self-is c.made-from.ensures.count c.made-to.ensures.count
]
