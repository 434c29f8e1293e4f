-- the entries of the decisions so far were appended
use Rattle.std.proofs.Common.{◌≡◌, ◌++◌, ℕ, List, take}
use Rattle.record_codec.specs.Version.{newest}
use Rattle.store_layout.specs.Entries.{SpellsEntriesOf}
use Rattle.store_layout.proofs.entries.put_batch.Given as goal

abbrev pub invariant-loop-decision : goal.invariant-loop-decision
invariant-loop-decision l =
    (bytes : List ℕ) × (l.out.items ≡ l.initial.out.items ++ bytes) × SpellsEntriesOf newest (take l.decision-index l.decision-items) bytes
