use Rattle.std.proofs.Common.{◌≡◌, rules, sym, ◌∙◌}
use Rattle.std.proofs.lemmas.Result.{IfOk-weaker}
use Rattle.lw_types.specs.Hex.{hex_text, field_text}
use Rattle.lw_types.proofs.FieldTexts.{dash_is_nothing, dash_is_text, not_empty, dash_alone, field_from_hex, hex_from_field, IsFieldText-from_hex, IsHexText-from_field}
use Rattle.lw_types.proofs.hex_text.read_field.Goals as goal

pub returns-in-empty-clause-only : goal.returns-in-empty-clause-only
returns-in-empty-clause-only c = λ bytes fits e. absurd (not_empty bytes (sym e ∙ c.in-empty.is))

pub returns-in-empty-clause-malformed : goal.returns-in-empty-clause-malformed
returns-in-empty-clause-malformed c = (λ _ h. not_empty h.0 (sym h.2 ∙ c.in-empty.is), λ _. search rules)

pub returns-in-text-clause-found : goal.returns-in-text-clause-found
returns-in-text-clause-found c = rw (c.new.ensures.items, dash_is_nothing) c.in-text.is

pub returns-in-text-clause-only : goal.returns-in-text-clause-only
returns-in-text-clause-only c = λ bytes fits e. c.new.ensures.items ∙ dash_alone bytes (sym e ∙ c.in-text.is)

pub returns-in-text-clause-malformed : goal.returns-in-text-clause-malformed
returns-in-text-clause-malformed c = (λ bad. cc bad, λ none. absurd (none (rw c.in-text.is dash_is_text)))

pub returns-in_default-clause-found : goal.returns-in_default-clause-found
returns-in_default-clause-found c = IfOk-weaker c.read_hex.result (λ bytes. c.args.text.now ≡ hex_text bytes.items) (λ bytes. c.args.text.now ≡ field_text bytes.items) (λ bytes e. field_from_hex _ _ c.in_default.not-empty e) c.read_hex.ensures.found

pub returns-in_default-clause-only : goal.returns-in_default-clause-only
returns-in_default-clause-only c = λ bytes fits e. c.read_hex.ensures.only bytes fits (hex_from_field _ _ c.in_default.not-text e)

pub returns-in_default-clause-malformed : goal.returns-in_default-clause-malformed
returns-in_default-clause-malformed c = (λ bad h. c.read_hex.ensures.malformed.0 bad (IsHexText-from_field _ c.in_default.not-text h), λ none. c.read_hex.ensures.malformed.1 (λ h. none (IsFieldText-from_hex _ c.in_default.not-empty h)))
