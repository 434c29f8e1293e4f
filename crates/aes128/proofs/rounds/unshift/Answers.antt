use Rattle.std.proofs.Common.{map, ◌∙◌}
use Rattle.aes128.specs.InverseCipher.{inv_s_box, unshifted_column}
use Rattle.aes128.proofs.StateLemmas.{joined-same}
use Rattle.aes128.proofs.rounds.unshift.Goals as goal

pub returns : goal.returns
returns c =
    let s = c.args.state.now in
    c.joined_columns.ensures
    ∙ joined-same c.unshifted_column.result c.unshifted_column-2.result c.unshifted_column-3.result c.unshifted_column-4.result
    (map inv_s_box (unshifted_column s 0)) (map inv_s_box (unshifted_column s 1)) (map inv_s_box (unshifted_column s 2)) (map inv_s_box (unshifted_column s 3))
    c.unshifted_column.ensures c.unshifted_column-2.ensures c.unshifted_column-3.ensures c.unshifted_column-4.ensures
