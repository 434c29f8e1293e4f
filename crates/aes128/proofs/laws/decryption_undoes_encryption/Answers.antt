use Rattle.aes128.proofs.InverseLemmas.{decrypted-encrypted, encrypted-decrypted}
use Rattle.aes128.proofs.laws.decryption_undoes_encryption.Goals as goal

pub returns-clause-decrypted : goal.returns-clause-decrypted
returns-clause-decrypted c = decrypted-encrypted

pub returns-clause-encrypted : goal.returns-clause-encrypted
returns-clause-encrypted c = encrypted-decrypted
