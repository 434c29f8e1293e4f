use Rattle.std.proofs.Common.{◌∙◌, sym}
use Rattle.lw_types.proofs.Decimals.{signed_found, signed_only, signed_none}
use Rattle.lw_types.proofs.decimal.I16FromText.from_text.Goals as goal

pub returns-then-not-starts_signed-clause-only : goal.returns-then-not-starts_signed-clause-only
returns-then-not-starts_signed-clause-only c = λ z fits e. absurd (signed_none z c.args.text.now (sym c.starts_signed.ensures ∙ c.if-not-starts_signed.true) fits e)

pub returns-clause-found : goal.returns-clause-found
returns-clause-found c = rw c.ok.ensures.value (signed_found c.args.text.now c.parse.result c.parse.ensures.value.0 (sym c.starts_signed.ensures ∙ c.if-not-starts_signed.false))

pub returns-clause-only : goal.returns-clause-only
returns-clause-only c = λ z fits e. c.ok.ensures.value ∙ signed_only z c.args.text.now c.parse.result c.parse.ensures.value.0 fits e
