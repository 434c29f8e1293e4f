use Rattle.frame_crypt.proofs.StreamLemmas.{crypted-twice}
use Rattle.frame_crypt.proofs.laws.crypting_twice_gives_the_payload.Goals as goal

pub returns : goal.returns
returns c = crypted-twice
