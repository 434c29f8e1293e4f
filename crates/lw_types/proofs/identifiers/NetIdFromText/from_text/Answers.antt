use Rattle.lw_types.proofs.ValueTexts.{network_found, network_only, net_id_none}
use Rattle.lw_types.proofs.identifiers.NetIdFromText.from_text.Goals as goal

pub returns-in_err-high-clause-only : goal.returns-in_err-high-clause-only
returns-in_err-high-clause-only c = λ x fits e. absurd (net_id_none _ x (λ bytes h. cc (c.in_err-high.ensures.only bytes h.0 h.1 h.2)) fits e)

pub returns-clause-found : goal.returns-clause-found
returns-clause-found c = network_found _ _ _ c.new.result c.in_ok-high.ensures.found c.from_be_bytes.ensures c.new.ensures

pub returns-clause-only : goal.returns-clause-only
returns-clause-only c = λ x fits e. network_only _ _ _ x c.new.result c.in_ok-high.ensures.found c.from_be_bytes.ensures c.new.ensures fits e
