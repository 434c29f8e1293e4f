use Rattle.gate_log.specs.Log.{log_state}
use Rattle.gate_log.proofs.Steps.{is_retiring, retired_images}
use Rattle.gate_log.proofs.log.Log.retire.Goals as goal

pub returns-in_err-write_at-clause-images : goal.returns-in_err-write_at-clause-images
returns-in_err-write_at-clause-images g c honest held rest is_open =
    retired_images c.a_write_tears_an_image.ensures c.settled_disk_keeps_its_content.ensures (log_state g.D.Disk.state c.args.self.now) held (g.D.Disk.state c.write_at.new.self) rest is_open (c.write_at.ensures.opens honest)

pub returns-clause-images : goal.returns-clause-images
returns-clause-images g c honest held rest is_open =
    retired_images c.a_write_tears_an_image.ensures c.settled_disk_keeps_its_content.ensures (log_state g.D.Disk.state c.args.self.now) held (g.D.Disk.state c.write_at.new.self) rest is_open (c.write_at.ensures.opens honest)

pub returns-clause-next : goal.returns-clause-next
returns-clause-next g c honest held rest is_open =
    is_retiring c.a_write_tears_an_image.ensures c.settled_disk_keeps_its_content.ensures (log_state g.D.Disk.state c.args.self.now) held (g.D.Disk.state c.write_at.new.self) rest is_open (c.write_at.ensures.opens honest) (c.in_ok-write_at.ensures.written honest)
