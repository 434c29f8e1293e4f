use Rattle.std.proofs.Common.{inr, subst, sym, arith}
use Rattle.gate_log.specs.Areas.{Holds, contents_with_batch}
use Rattle.gate_log.specs.Log.{log_state}
use Rattle.gate_log.proofs.Steps.{batch_at_rest, settled_images}
use Rattle.gate_log.proofs.phases.GateWritten.sync.Goals as goal

-- What the sync gives is searched for, so that a body without the sync is refused for what is
-- missing.
pub returns-clause-next : goal.returns-clause-next
returns-clause-next g c honest held b written =
    batch_at_rest (log_state g.D.Disk.state c.args.log.now) held b c.args.self.size _ written (grind arith) (grind arith)

pub returns-clause-durable : goal.returns-clause-durable
returns-clause-durable g c honest held b written =
    settled_images c.settled_disk_keeps_its_content.ensures (contents_with_batch held b) _ (grind arith) (subst (Holds (contents_with_batch held b)) (sym (grind arith)) written.holds)

pub returns-clause-images : goal.returns-clause-images
returns-clause-images g c honest held b written =
    λ image p. inr (settled_images c.settled_disk_keeps_its_content.ensures (contents_with_batch held b) _ (grind arith)
    (subst (Holds (contents_with_batch held b)) (sym (grind arith)) written.holds) image p)

pub returns-clause-call : goal.returns-clause-call
returns-clause-call g c = record { cause = grind arith; foreseen = grind arith }
