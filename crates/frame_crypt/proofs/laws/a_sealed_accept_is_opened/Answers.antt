use Rattle.frame_crypt.proofs.AcceptLemmas.{CipherLaws, opened-sealed, sealed-only}
use Rattle.frame_crypt.proofs.laws.a_sealed_accept_is_opened.Goals as goal

pub returns-clause-opened : goal.returns-clause-opened
returns-clause-opened c = opened-sealed (record {
  encrypted_block = c.encryption_gives_a_block.ensures;
  decrypted_block = c.decryption_gives_a_block.ensures;
  back = c.decryption_undoes_encryption.ensures.decrypted;
  forth = c.decryption_undoes_encryption.ensures.encrypted;
})

pub returns-clause-only : goal.returns-clause-only
returns-clause-only c = sealed-only (record {
  encrypted_block = c.encryption_gives_a_block.ensures;
  decrypted_block = c.decryption_gives_a_block.ensures;
  back = c.decryption_undoes_encryption.ensures.decrypted;
  forth = c.decryption_undoes_encryption.ensures.encrypted;
})
