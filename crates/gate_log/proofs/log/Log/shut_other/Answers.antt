use Rattle.gate_log.proofs.Results.{on_err}
use Rattle.gate_log.proofs.log.Log.shut_other.Goals as goal

pub returns-in_err-retire-clause-images : goal.returns-in_err-retire-clause-images
returns-in_err-retire-clause-images g c honest held rest =
    on_err c.from_residual.result _ (c.in_err-retire.ensures.images honest held rest c.if-not-self.false)

pub returns-clause-images : goal.returns-clause-images
returns-clause-images g c honest held rest =
    on_err c.sync.result _ (c.sync.ensures.images honest held (c.in_ok-retire.ensures.next honest held rest c.if-not-self.false))
