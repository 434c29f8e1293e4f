use Rattle.std.proofs.Common.{ap, ◌∙◌, List, ℕ}
use Rattle.aes128.specs.InverseCipher.{inv_shift_rows, inv_sub_bytes}
use Rattle.aes128.proofs.rounds.undo_last_round.Goals as goal

pub returns : goal.returns
returns c = c.unshift.ensures ∙ ap (λ (s : List ℕ). inv_sub_bytes (inv_shift_rows s)) c.xor.ensures
