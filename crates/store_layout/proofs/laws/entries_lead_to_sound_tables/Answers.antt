use Rattle.store_layout.proofs.SoundTables.{leads_sound}
use Rattle.store_layout.proofs.laws.entries_lead_to_sound_tables.Goals as goal

pub returns : goal.returns
returns c = leads_sound
