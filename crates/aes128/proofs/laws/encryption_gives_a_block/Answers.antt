use Rattle.aes128.proofs.LawLemmas.{encrypted-block}
use Rattle.aes128.proofs.laws.encryption_gives_a_block.Goals as goal

pub returns : goal.returns
returns c = encrypted-block
