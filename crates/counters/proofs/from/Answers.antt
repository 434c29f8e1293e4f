use Rattle.std.proofs.Common.{rules}
use Rattle.counters.proofs.from.Goals as goal

pub returns-then-counter-clause-first : goal.returns-then-counter-clause-first
returns-then-counter-clause-first c = search rules

pub returns-then-counter-clause-value : goal.returns-then-counter-clause-value
returns-then-counter-clause-value c = search rules
