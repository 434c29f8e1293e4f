use Rattle.std.proofs.Common.{rules}
use Rattle.backend_json.proofs.Equal.{no_value}
use Rattle.backend_json.proofs.read_ans.accept_of.Goals as goal

pub returns-in_err-accept-clause-only : goal.returns-in_err-accept-clause-only
returns-in_err-accept-clause-only c accept others is h =
    elim (no_value (c.in_err-accept.ensures.only (record { 0 = accept }) others is h)) [ ]

pub returns-clause-found : goal.returns-clause-found
returns-clause-found c = (c.in_ok-accept.ensures.value, search rules)

pub returns-clause-only : goal.returns-clause-only
returns-clause-only c accept others is h =
    let found = c.in_ok-accept.ensures.only (record { 0 = accept }) others is h in
    search (rules, found)
