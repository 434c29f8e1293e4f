use Rattle.std.proofs.Common.{◌∙◌, ap, ℕ}
use Rattle.std.specs.Int.{w128, to_be_bytes}
use Rattle.aes_cmac.specs.Cmac.{double, double_number}
use Rattle.aes_cmac.proofs.ChainLemmas.{doubled_number-low, doubled_number-high}
use Rattle.aes_cmac.proofs.chain.doubled.Goals as goal

pub returns-then-number : goal.returns-then-number
unfolding double
returns-then-number c =
    c.to_be_bytes.ensures
    ∙ ap (λ (n : ℕ). to_be_bytes w128 n) (doubled_number-low c.from_be_bytes-number.result c.if-number.true ∙ ap double_number c.from_be_bytes-number.ensures)

pub returns-else-number : goal.returns-else-number
unfolding double
returns-else-number c =
    c.to_be_bytes-else-number.ensures
    ∙ ap (λ (n : ℕ). to_be_bytes w128 n)
    (doubled_number-high c.from_be_bytes-number.result c.if-number.false c.from_be_bytes-number.type_inv ∙ ap double_number c.from_be_bytes-number.ensures)
