use Rattle.backend_json.proofs.join_req.network_of.Goals as goal

pub returns-in_err-number-clause-only : goal.returns-in_err-number-clause-only
returns-in_err-number-clause-only c rx_delay net_id transaction x n t h =
    elim (c.in_err-number.ensures rx_delay _ h) [ ]
