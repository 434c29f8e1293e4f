use Rattle.std.proofs.Common.{arith}
use Rattle.gate_log.specs.Log.{log_state}
use Rattle.gate_log.proofs.Steps.{retired_at_rest}
use Rattle.gate_log.proofs.checkpoint.Retiring.sync.Goals as goal

-- What the sync gives is searched for, so that a body without the sync is refused for what is
-- missing.
pub returns-clause-next : goal.returns-clause-next
returns-clause-next g c honest held retiring =
    retired_at_rest (log_state g.D.Disk.state c.args.log.now) held _ retiring (grind arith) (grind arith)
