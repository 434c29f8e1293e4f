use Rattle.store_layout.proofs.EntryLaws.{record_laws}
use Rattle.store_layout.proofs.Replays.{one-replay, one-table}
use Rattle.store_layout.proofs.laws.bytes_replay_in_one_way.Goals as goal

pub returns-clause-entries : goal.returns-clause-entries
returns-clause-entries c v = one-replay (record_laws c.each_record_is_of_one_device.ensures c.records_are_short.ensures.most c.each_change_is_of_one_record.ensures v)

pub returns-clause-table : goal.returns-clause-table
returns-clause-table c v = one-table (record_laws c.each_record_is_of_one_device.ensures c.records_are_short.ensures.most c.each_change_is_of_one_record.ensures v)
