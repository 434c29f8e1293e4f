use Rattle.std.proofs.Common.{rules}
use Rattle.join_server.proofs.server.next_join_nonce.Goals as goal

pub returns-in-Some : goal.returns-in-Some
returns-in-Some c = search rules
