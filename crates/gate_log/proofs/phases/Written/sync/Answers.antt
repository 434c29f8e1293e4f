use Rattle.gate_log.specs.Log.{log_state}
use Rattle.gate_log.proofs.Steps.{body_synced, synced_images}
use Rattle.gate_log.proofs.phases.Written.sync.Goals as goal

pub returns-clause-next : goal.returns-clause-next
returns-clause-next g c honest held b written =
    let settled = c.in_ok-sync.ensures.settled honest in
    body_synced (log_state g.D.Disk.state c.args.log.now) held b c.args.self.size (g.D.Disk.state c.sync.new.self) written settled.content settled.nothing_open

pub returns-clause-images : goal.returns-clause-images
returns-clause-images g c honest held b written =
    let settled = c.in_ok-sync.ensures.settled honest in
    synced_images c.settled_disk_keeps_its_content.ensures held (g.D.Disk.state c.args.log.now.disk) (g.D.Disk.state c.sync.new.self) written.images settled.content settled.nothing_open
