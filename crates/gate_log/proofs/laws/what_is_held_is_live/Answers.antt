use Rattle.gate_log.proofs.Unique.{is_live, room_of}
use Rattle.gate_log.proofs.laws.what_is_held_is_live.Goals as goal

pub returns-clause-live : goal.returns-clause-live
returns-clause-live c = is_live

pub returns-clause-room : goal.returns-clause-room
returns-clause-room c = room_of
