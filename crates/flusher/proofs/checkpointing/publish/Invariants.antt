-- the checkpoint so far
use Rattle.std.proofs.Common.{◌≡◌, ◌+◌, ℕ}
use Rattle.store.specs.Checkpointing.{FitsOther, IsCheckpointOn}
use Rattle.store.specs.Publishing.{IsPublishingOn, calls_left, publishing_size}
use Rattle.store.specs.State.{disk_of, store_state}
use Rattle.store.specs.declared.publishing.Publishing.TheVariants.{Begun}
use Rattle.flusher.specs.Calls.{HaveSucceeded, NoneFailed}
use Rattle.flusher.proofs.checkpointing.publish.Given as goal

abbrev pub invariant-calls : goal.invariant-calls
invariant-calls g l =
    record {
      fits : FitsOther (store_state g.D.Disk.state l.store) (publishing_size l.publishing);
      calls : NoneFailed g.D.Disk.failures g.D.Disk.outlook l.fn.store l.store;
      made : (made : ℕ) × (HaveSucceeded made (g.D.Disk.outlook (disk_of l.fn.store)) (g.D.Disk.outlook (disk_of l.store))
          × (made + calls_left (store_state g.D.Disk.state l.store) l.publishing ≡ calls_left (store_state g.D.Disk.state l.fn.store) (Begun l.fn.checkpoint)));
      table : l.store.table ≡ l.fn.store.table;
      seq : l.store.seq ≡ l.fn.store.seq;
      on_disk : g.D.Disk.honest → IsCheckpointOn (store_state g.D.Disk.state l.fn.store) l.fn.checkpoint → IsPublishingOn (store_state g.D.Disk.state l.store) l.publishing;
      generation : g.D.Disk.honest → IsCheckpointOn (store_state g.D.Disk.state l.fn.store) l.fn.checkpoint
          → (store_state g.D.Disk.state l.store).log.generation ≡ (store_state g.D.Disk.state l.fn.store).log.generation;
    }

abbrev pub decreases-calls : goal.decreases-calls
decreases-calls g l = calls_left (store_state g.D.Disk.state l.store) l.publishing
