use Rattle.std.proofs.Common.{Some, refl}
use Rattle.lw_types.specs.declared.refusal.Refusal.TheVariants.{OutOfMemory}
use Rattle.session_core.specs.Events.{has_due}
use Rattle.session_core.proofs.Seen.{has-closed, starved-both}
use Rattle.session_core.proofs.events.Core.hear_without_memory.Goals as goal

pub returns-clause-turn : goal.returns-clause-turn
returns-clause-turn c = record {
  between = c.begin.new.self;
  closed = has-closed _ _ _ _ c.begin.ensures.closed;
  own = starved-both (has_due c.begin.new.self) c.begin.new.self c.begin.new.self (Some OutOfMemory) (refl, refl);
  from = c.made-from.ensures.count;
  to = c.made-to.ensures.count;
}
