use Rattle.std.proofs.Common.{refl}
use Rattle.frame_crypt.specs.Joins.{session_key}
use Rattle.frame_crypt.proofs.join.session_key.Goals as goal

pub returns : goal.returns
unfolding session_key
returns c =
    rw (c.encrypt.ensures, c.to_le_bytes.ensures, c.get.ensures.value, c.to_le_bytes-2.ensures, c.from.ensures, c.get-2.ensures.value, c.to_le_bytes-3.ensures) refl
