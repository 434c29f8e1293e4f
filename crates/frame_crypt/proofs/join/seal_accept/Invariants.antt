use Rattle.std.proofs.Common.{◌≡◌, ◌*◌, ◌+◌, ◌++◌, take, drop}
use Rattle.aes128.specs.InverseCipher.{plaintext}
use Rattle.frame_crypt.specs.Joins.{each_block}
use Rattle.frame_crypt.proofs.join.seal_accept.Given as goal

abbrev pub invariant-loop-i : goal.invariant-loop-i
invariant-loop-i l = record {
  sealed : take (16 * l.i + 1) l.frame ≡ take 1 l.initial.frame ++ each_block (plaintext l.keys) (drop 1 l.initial.frame) l.i;
  left : drop (16 * l.i + 1) l.frame ≡ drop (16 * l.i + 1) l.initial.frame;
}
