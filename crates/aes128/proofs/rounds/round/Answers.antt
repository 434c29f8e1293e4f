use Rattle.std.proofs.Common.{ap, ◌∙◌, arith}
use Rattle.aes128.specs.Cipher.{xor, sub_bytes, shift_rows, mix_columns}
use Rattle.aes128.proofs.StateLemmas.{joined-same}
use Rattle.aes128.proofs.WordLemmas.{state_columns}
use Rattle.aes128.proofs.rounds.round.Goals as goal

pub returns : goal.returns
returns c =
    c.joined_columns.ensures
    ∙ joined-same c.round_column.result c.round_column-2.result c.round_column-3.result c.round_column-4.result _ _ _ _
    c.round_column.ensures c.round_column-2.ensures c.round_column-3.ensures c.round_column-4.ensures
    ∙ ap (xor (mix_columns (shift_rows (sub_bytes c.args.state.now)))) (state_columns c.args.key.now (omega arith))
