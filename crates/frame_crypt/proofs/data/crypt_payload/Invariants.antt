use Rattle.std.proofs.Common.{◌≡◌, ◌*◌, take, drop}
use Rattle.aes128.specs.Cipher.{xor}
use Rattle.frame_crypt.specs.Frames.{keystream}
use Rattle.frame_crypt.proofs.data.crypt_payload.Given as goal

abbrev pub invariant-loop-i : goal.invariant-loop-i
invariant-loop-i l = record {
  done : take (16 * l.i) l.payload ≡ xor (take (16 * l.i) l.initial.payload) (keystream l.keys l.dir l.addr.0 l.counter l.i);
  left : drop (16 * l.i) l.payload ≡ drop (16 * l.i) l.initial.payload;
}
