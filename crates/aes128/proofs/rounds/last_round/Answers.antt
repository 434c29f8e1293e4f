use Rattle.std.proofs.Common.{rules}
use Rattle.aes128.proofs.rounds.last_round.Goals as goal

pub returns : goal.returns
returns c = search rules
