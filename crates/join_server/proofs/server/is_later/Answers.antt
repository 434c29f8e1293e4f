use Rattle.std.proofs.Common.{rules}
use Rattle.join_server.proofs.server.is_later.Goals as goal

pub returns-in-Some : goal.returns-in-Some
returns-in-Some c = search rules
