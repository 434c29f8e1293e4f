use Rattle.std.proofs.Common.{Some, ap}
use Rattle.lw_types.proofs.ValueTexts.{eui_found, eui_only, eui_none}
use Rattle.lw_types.proofs.identifiers.EuiFromText.from_text.Goals as goal

pub returns-in_err-read_array-clause-only : goal.returns-in_err-read_array-clause-only
returns-in_err-read_array-clause-only c = λ x fits e. absurd (eui_none _ x (λ bytes h. cc (c.in_err-read_array.ensures.only bytes h.0 h.1 h.2)) e)

pub returns-clause-found : goal.returns-clause-found
returns-clause-found c = eui_found _ _ _ c.in_ok-read_array.ensures.found c.from_be_bytes.ensures

pub returns-clause-only : goal.returns-clause-only
returns-clause-only c = λ x fits e. ap (λ n. Some (record { 0 = n })) (eui_only _ _ _ x c.in_ok-read_array.ensures.found c.from_be_bytes.ensures fits e)
