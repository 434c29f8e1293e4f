use Rattle.aes128.proofs.InverseLemmas.{decrypted-block}
use Rattle.aes128.proofs.laws.decryption_gives_a_block.Goals as goal

pub returns : goal.returns
returns c = decrypted-block
