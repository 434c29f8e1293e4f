use Rattle.std.proofs.Common.{inr, arith, refl}
use Rattle.gate_log.specs.Log.{log_state}
use Rattle.gate_log.proofs.Pairs.{pair_durable, pair_synced}
use Rattle.gate_log.proofs.pairing.Paired.sync.Goals as goal

pub returns-clause-next : goal.returns-clause-next
returns-clause-next g c honest held b n is =
    pair_synced (log_state g.D.Disk.state c.args.log.now) held b n c.args.self.size c.args.self.next_size _ is (grind arith) (grind arith) _ refl

pub returns-clause-durable : goal.returns-clause-durable
returns-clause-durable g c honest held b n is =
    pair_durable (log_state g.D.Disk.state c.args.log.now) held b n c.args.self.size c.args.self.next_size _ is (grind arith) (grind arith)
    c.settled_disk_keeps_its_content.ensures

pub returns-clause-images : goal.returns-clause-images
returns-clause-images g c honest held b n is =
    λ image p. inr (pair_durable (log_state g.D.Disk.state c.args.log.now) held b n c.args.self.size c.args.self.next_size _ is (grind arith) (grind arith)
    c.settled_disk_keeps_its_content.ensures image p)
