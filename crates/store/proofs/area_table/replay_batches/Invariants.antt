-- the batches so far lead here, and all of them lead wherever those that are left lead from here
use Rattle.std.proofs.Common.{◌↔◌, ℕ, drop, take}
use Rattle.sessions.specs.Table.{TableState}
use Rattle.store.specs.Image.{BatchesLead}
use Rattle.store.proofs.area_table.replay_batches.Given as goal

abbrev pub invariant-loop-batch : goal.invariant-loop-batch
invariant-loop-batch l =
    ((u : TableState) (n : ℕ) → BatchesLead l.version l.fn.table l.fn.seq l.batches u n ↔ BatchesLead l.version l.table l.last (drop l.batch-index l.batches) u n)
    × BatchesLead l.version l.fn.table l.fn.seq (take l.batch-index l.batches) l.table l.last
