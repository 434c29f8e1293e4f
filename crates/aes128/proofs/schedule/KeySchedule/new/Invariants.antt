use Rattle.std.proofs.Common.{◌≡◌, ◌≤◌, [], ℕ, length, get_or}
use Rattle.aes128.specs.Field.{power}
use Rattle.aes128.specs.Cipher.{round_key}
use Rattle.aes128.proofs.schedule.KeySchedule.new.Given as goal

abbrev pub invariant-loop-r : goal.invariant-loop-r
invariant-loop-r l = record {
  size : length l.round_keys ≡ 11;
  made : (k : ℕ) → k ≤ l.r → get_or l.round_keys k [] ≡ round_key l.fn.key.0 k;
  constant : l.constant ≡ power 2 l.r;
}
