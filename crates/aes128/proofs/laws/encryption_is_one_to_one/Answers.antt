use Rattle.aes128.proofs.LawLemmas.{encrypted_one_to_one}
use Rattle.aes128.proofs.laws.encryption_is_one_to_one.Goals as goal

pub returns : goal.returns
returns c = encrypted_one_to_one
