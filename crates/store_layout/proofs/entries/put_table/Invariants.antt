-- what was appended and the entries of the remaining devices are the entries of all
use Rattle.std.proofs.Common.{◌≡◌, ◌++◌, drop}
use Rattle.record_codec.specs.Version.{newest}
use Rattle.store_layout.specs.Entries.{AreEntries, entries, entries_from}
use Rattle.store_layout.proofs.entries.put_table.Given as goal

abbrev pub invariant-loop-device : goal.invariant-loop-device
invariant-loop-device l = record {
  slot : l.slot ≡ l.device-index;
  written : l.out.items ++ entries newest (entries_from l.slot (drop l.device-index l.device-items)) ≡ l.initial.out.items ++ entries newest (entries_from 0 l.device-items);
  each : AreEntries newest (entries_from l.slot (drop l.device-index l.device-items)) → AreEntries newest (entries_from 0 l.device-items);
}
