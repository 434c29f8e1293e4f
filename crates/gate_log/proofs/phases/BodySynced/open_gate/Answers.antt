use Rattle.gate_log.specs.Log.{log_state}
use Rattle.gate_log.proofs.Steps.{gate_images, gate_is_written}
use Rattle.gate_log.proofs.phases.BodySynced.open_gate.Goals as goal

pub returns-in_err-write_at-clause-images : goal.returns-in_err-write_at-clause-images
returns-in_err-write_at-clause-images g c honest held b synced =
    gate_images c.a_write_tears_an_image.ensures c.settled_disk_keeps_its_content.ensures (log_state g.D.Disk.state c.args.log.now) held b c.args.self.size (g.D.Disk.state c.write_at.new.self) synced (c.write_at.ensures.opens honest)

pub returns-clause-images : goal.returns-clause-images
returns-clause-images g c honest held b synced =
    gate_images c.a_write_tears_an_image.ensures c.settled_disk_keeps_its_content.ensures (log_state g.D.Disk.state c.args.log.now) held b c.args.self.size (g.D.Disk.state c.write_at.new.self) synced (c.write_at.ensures.opens honest)

pub returns-clause-next : goal.returns-clause-next
returns-clause-next g c honest held b synced =
    gate_is_written c.a_write_tears_an_image.ensures c.settled_disk_keeps_its_content.ensures (log_state g.D.Disk.state c.args.log.now) held b c.args.self.size (g.D.Disk.state c.write_at.new.self) synced (c.write_at.ensures.opens honest) (c.in_ok-write_at.ensures.written honest)
