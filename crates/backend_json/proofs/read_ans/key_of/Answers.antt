use Rattle.std.proofs.Common.{rules}
use Rattle.backend_json.proofs.read_ans.key_of.Goals as goal

pub returns-clause-found : goal.returns-clause-found
returns-clause-found c = (c.in_ok-key.ensures.value, search rules)
