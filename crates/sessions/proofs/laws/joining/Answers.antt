use Rattle.sessions.proofs.Runs.{applied_all-append, ContinueAll-append, ContinueAll-split}
use Rattle.sessions.proofs.laws.joining.Goals as goal

pub returns-clause-continues : goal.returns-clause-continues
returns-clause-continues c t seq first second =
    (ContinueAll-split t seq first second, λ both. ContinueAll-append t seq first second both.0 both.1)

pub returns-clause-table : goal.returns-clause-table
returns-clause-table c = applied_all-append
