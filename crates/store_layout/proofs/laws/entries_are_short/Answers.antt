use Rattle.store_layout.proofs.EntryLaws.{short_in}
use Rattle.store_layout.proofs.Replays.{short-entries}
use Rattle.store_layout.proofs.laws.entries_are_short.Goals as goal

pub returns : goal.returns
returns c v = short-entries v (short_in c.records_are_short.ensures.most v)
