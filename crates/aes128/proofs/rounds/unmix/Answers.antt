use Rattle.std.proofs.Common.{ap, ◌∙◌}
use Rattle.aes128.specs.Cipher.{column}
use Rattle.aes128.specs.InverseCipher.{unmixed_column}
use Rattle.aes128.proofs.StateLemmas.{joined-same}
use Rattle.aes128.proofs.rounds.unmix.Goals as goal

pub returns : goal.returns
returns c =
    let s = c.args.state.now in
    c.joined_columns.ensures
    ∙ joined-same c.unmixed.result c.unmixed-2.result c.unmixed-3.result c.unmixed-4.result
    (unmixed_column (column s 0)) (unmixed_column (column s 1)) (unmixed_column (column s 2)) (unmixed_column (column s 3))
    (c.unmixed.ensures ∙ ap unmixed_column c.column_at.ensures) (c.unmixed-2.ensures ∙ ap unmixed_column c.column_at-2.ensures)
    (c.unmixed-3.ensures ∙ ap unmixed_column c.column_at-3.ensures) (c.unmixed-4.ensures ∙ ap unmixed_column c.column_at-4.ensures)
