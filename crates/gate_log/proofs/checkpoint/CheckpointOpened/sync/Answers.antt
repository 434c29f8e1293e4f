use Rattle.gate_log.specs.Log.{log_state}
use Rattle.gate_log.proofs.Steps.{published_at_rest}
use Rattle.gate_log.proofs.checkpoint.CheckpointOpened.sync.Goals as goal

pub returns-clause-next : goal.returns-clause-next
returns-clause-next g c honest held header records opened =
    let settled = c.in_ok-sync.ensures.settled honest in
    published_at_rest (log_state g.D.Disk.state c.args.log.now) held header records c.args.self.front (g.D.Disk.state c.sync.new.self) opened settled.content settled.nothing_open
