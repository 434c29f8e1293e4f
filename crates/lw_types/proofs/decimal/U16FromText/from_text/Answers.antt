use Rattle.std.proofs.Common.{◌∙◌, sym, lit≤}
use Rattle.lw_types.proofs.Decimals.{unsigned_found, unsigned_only, unsigned_none}
use Rattle.lw_types.proofs.decimal.U16FromText.from_text.Goals as goal

pub returns-then-not-starts_plain-clause-only : goal.returns-then-not-starts_plain-clause-only
returns-then-not-starts_plain-clause-only c = λ n lt e. absurd (unsigned_none 16 n c.args.text.now (lit≤ tt) (sym c.starts_plain.ensures ∙ c.if-not-starts_plain.true) lt e)

pub returns-clause-found : goal.returns-clause-found
returns-clause-found c = rw c.ok.ensures.value (unsigned_found 16 c.args.text.now c.parse.result (lit≤ tt) c.parse.ensures.value.0 (sym c.starts_plain.ensures ∙ c.if-not-starts_plain.false))

pub returns-clause-only : goal.returns-clause-only
returns-clause-only c = λ n lt e. c.ok.ensures.value ∙ unsigned_only 16 n c.args.text.now c.parse.result (lit≤ tt) c.parse.ensures.value.0 lt e
