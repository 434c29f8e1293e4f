use Rattle.std.proofs.Common.{arith}
use Rattle.session_core.proofs.closing.later.Goals as goal

pub returns-then-get : goal.returns-then-get
returns-then-get c = omega arith

pub returns-else-get : goal.returns-else-get
returns-else-get c = omega arith
