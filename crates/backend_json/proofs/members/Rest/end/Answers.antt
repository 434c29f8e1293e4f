use Rattle.std.proofs.Common.{rules}
use Rattle.backend_json.proofs.members.Rest.end.Goals as goal

pub returns-in-Some : goal.returns-in-Some
returns-in-Some c = search rules
