-- the entries so far are put on the table
use Rattle.store_layout.proofs.EntryLaws.{ReadSo}
use Rattle.store_layout.proofs.replaying.replay.Given as goal

abbrev pub invariant-loop-i : goal.invariant-loop-i
invariant-loop-i l = ReadSo l.version l.fn.table l.bytes l._i l.table l.rest
