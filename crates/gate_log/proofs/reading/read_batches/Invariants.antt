use Rattle.std.proofs.Common.{◌≡◌, ◌<◌, ◌+◌, ◌-◌, ◌++◌, false, length, drop}
use Rattle.gate_log.specs.Layout.{AreHeads, open_batches}
use Rattle.gate_log.specs.Recover.{OnlyReads}
use Rattle.gate_log.proofs.reading.read_batches.Given as goal

abbrev pub invariant-loop-batches : goal.invariant-loop-batches
invariant-loop-batches g l = record {
  reads : OnlyReads g.D.Disk.honest g.D.Disk.state g.D.Disk.failures g.D.Disk.outlook l.initial.disk l.disk false;
  bytes : g.D.Disk.honest → drop l.first (g.D.Disk.state l.initial.disk).content ≡ open_batches l.batches.items ++ drop l.at (g.D.Disk.state l.initial.disk).content;
  heads : g.D.Disk.honest → AreHeads l.batches.items;
  at : l.at ≡ l.first + length (open_batches l.batches.items);
  room : l.at < l.end;
}

abbrev pub decreases-loop-batches : goal.decreases-loop-batches
decreases-loop-batches g l = l.end - l.at
