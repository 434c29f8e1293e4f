use Rattle.sessions.proofs.Restoring.{covers_all, sound}
use Rattle.sessions.proofs.laws.a_restored_table_covers.Goals as goal

pub returns-clause-covered : goal.returns-clause-covered
returns-clause-covered c = covers_all

pub returns-clause-sound : goal.returns-clause-sound
returns-clause-sound c = sound
