use Rattle.std.proofs.Common.{arith}
use Rattle.gate_log.specs.Log.{log_state}
use Rattle.gate_log.proofs.Steps.{checkpoint_synced, synced_images}
use Rattle.gate_log.proofs.checkpoint.CheckpointWritten.sync.Goals as goal

-- What the sync gives is searched for, so that a body without the sync is refused for what is
-- missing.
pub returns-clause-next : goal.returns-clause-next
returns-clause-next g c honest held header records written =
    checkpoint_synced (log_state g.D.Disk.state c.args.log.now) held header records c.args.self.front _ written (grind arith) (grind arith)

pub returns-clause-images : goal.returns-clause-images
returns-clause-images g c honest held header records written =
    synced_images c.settled_disk_keeps_its_content.ensures held (g.D.Disk.state c.args.log.now.disk) _ written.images (grind arith) (grind arith)
