use Rattle.std.proofs.Common.{rules}
use Rattle.join_server.proofs.server.admit.Goals as goal

pub returns-then-not-is_signed : goal.returns-then-not-is_signed
returns-then-not-is_signed c = search rules
