use Rattle.store_layout.proofs.Tables.{length-entries_from, table_replays}
use Rattle.store_layout.proofs.laws.a_table_replays.Goals as goal

pub returns-clause-replay : goal.returns-clause-replay
returns-clause-replay c = table_replays

pub returns-clause-number : goal.returns-clause-number
returns-clause-number c t = length-entries_from 0 t.devices
