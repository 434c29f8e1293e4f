use Rattle.std.proofs.Common.{rules}
use Rattle.uplinks.proofs.accepted.forward.Goals as goal

pub returns-in_default-new-clause-told : goal.returns-in_default-new-clause-told
returns-in_default-new-clause-told c = search rules

pub returns-clause-told : goal.returns-clause-told
returns-clause-told c = search rules
