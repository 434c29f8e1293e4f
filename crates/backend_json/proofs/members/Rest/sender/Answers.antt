use Rattle.backend_json.proofs.Equal.{behind}
use Rattle.backend_json.proofs.members.Rest.sender.Goals as goal

pub returns-in_err-number-clause-only : goal.returns-in_err-number-clause-only
returns-in_err-number-clause-only g c sender transaction s t h =
    elim (c.in_err-number.ensures transaction _ (behind c.in_ok-sender.ensures.found h)) [ ]
