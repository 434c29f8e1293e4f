use Rattle.std.proofs.Common.{eq-eqb}
use Rattle.std.proofs.lemmas.Bool.{eqb-true}
use Rattle.lw_types.proofs.UpperHex.{hex_from_digits, digits_from_hex}
use Rattle.lw_types.proofs.hex_text.is_hex.Goals as goal

pub returns-then-text-eq0 : goal.returns-then-text-eq0
returns-then-text-eq0 c = (λ yes. hex_from_digits _ c.if-text-eq0.true (c.is_upper.ensures.0 yes), λ h. c.is_upper.ensures.1 (digits_from_hex _ h).1)

pub returns-else-text-eq0 : goal.returns-else-text-eq0
returns-else-text-eq0 c = (λ yes. absurd (c.if-text-eq0.false (eqb-true _ _ yes)), λ h. eq-eqb _ _ (digits_from_hex _ h).0)
