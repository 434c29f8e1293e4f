use Rattle.std.proofs.Common.{◌≡◌, [], get_or}
use Rattle.aes128.specs.InverseCipher.{inv_rounds, inv_shift_rows, inv_sub_bytes}
use Rattle.aes128.proofs.schedule.KeySchedule.decrypt.Given as goal

-- this number of inverse rounds is done, and the first half of the next one
abbrev pub invariant-loop-r : goal.invariant-loop-r
invariant-loop-r l = l.block ≡ inv_sub_bytes (inv_shift_rows (inv_rounds (get_or l.self-inside.round_keys 0 []) l.fn.block l.r))
