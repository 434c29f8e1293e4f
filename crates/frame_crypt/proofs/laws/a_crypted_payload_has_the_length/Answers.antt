use Rattle.frame_crypt.proofs.StreamLemmas.{crypted-bytes, length-crypted}
use Rattle.frame_crypt.proofs.laws.a_crypted_payload_has_the_length.Goals as goal

pub returns-clause-length : goal.returns-clause-length
returns-clause-length c = length-crypted

pub returns-clause-bytes : goal.returns-clause-bytes
returns-clause-bytes c key dir addr counter payload is_key all = crypted-bytes c.encryption_gives_a_block.ensures key dir addr counter payload is_key all
