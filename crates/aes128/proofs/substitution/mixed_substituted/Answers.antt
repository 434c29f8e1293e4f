use Rattle.std.proofs.Common.{arith, ◌∙◌, ap, get_or, List, ℕ}
use Rattle.std.specs.Int.{w32, to_le_bytes}
use Rattle.aes128.specs.Field.{◌⊕◌}
use Rattle.aes128.specs.Cipher.{xor}
use Rattle.aes128.specs.declared.substitution.TheConstants.{MIXED_S_BOX}
use Rattle.aes128.proofs.ColumnLemmas.{mixed_by_table, to_le_bytes-xor}
use Rattle.aes128.proofs.substitution.mixed_substituted.Goals as goal

pub returns : goal.returns
returns c =
    c.to_le_bytes.ensures
    ∙ to_le_bytes-xor (get_or MIXED_S_BOX c.args.a 0 ⊕ c.rotate_left-second.result ⊕ c.rotate_left-third.result ⊕ c.rotate_left-fourth.result) c.args.key
    ∙ ap (λ (l : List ℕ). xor l (to_le_bytes w32 c.args.key))
    (mixed_by_table c.args.a c.args.b c.args.c c.args.d c.rotate_left-second.result c.rotate_left-third.result c.rotate_left-fourth.result
    (record { first = omega arith; second = omega arith; third = omega arith; fourth = omega arith })
    c.rotate_left-second.ensures c.rotate_left-third.ensures c.rotate_left-fourth.ensures)
