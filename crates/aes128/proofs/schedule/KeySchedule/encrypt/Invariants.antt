use Rattle.std.proofs.Common.{◌≡◌, [], get_or}
use Rattle.aes128.specs.Cipher.{rounds}
use Rattle.aes128.proofs.schedule.KeySchedule.encrypt.Given as goal

abbrev pub invariant-loop-r : goal.invariant-loop-r
invariant-loop-r l = l.block ≡ rounds (get_or l.self-inside.round_keys 0 []) l.fn.block l.r
