use Rattle.std.proofs.Common.{ℕ, List, [], ◌∷◌, subst, sym}
use Rattle.gate_log.specs.Layout.{BatchValue}
use Rattle.record_codec.specs.declared.version.RecordVersion.{RecordVersion}
use Rattle.sessions.specs.Marks.{IsSound}
use Rattle.sessions.specs.Table.{TableState, empty_table}
use Rattle.store_layout.specs.Entries.{AreEntries, EntriesLead, EntryValue}
use Rattle.store.specs.Image.{BatchesLead}
use Rattle.store.proofs.laws.what_is_held_is_sound.Goals as goal

-- what the law of entries says
abbrev EntryLaw : Type 0
EntryLaw = (v : RecordVersion) (t u : TableState) (es : List EntryValue) → IsSound t → AreEntries v es → EntriesLead v t es u → IsSound u

-- batches on a sound table lead to a sound one
batches_sound : EntryLaw → (v : RecordVersion) (t : TableState) (seq : ℕ) (batches : List BatchValue) (u : TableState) (n : ℕ) → IsSound t
    → BatchesLead v t seq batches u n → IsSound u
batches_sound entries v t seq [] u n sound lead = subst IsSound (sym lead.0) sound
batches_sound entries v t seq (b ∷ batches) u n sound lead =
    let replay = lead.2.replay in
    batches_sound entries v lead.1 b.last_sequence batches u n (entries v t lead.1 lead.0 sound replay.each replay.leads) lead.3

pub returns : goal.returns
returns c t seq image holds =
    let entries = c.entries_lead_to_sound_tables.ensures in
    let v = holds.version in
    let journal = holds.says.journal in
    let replay = journal.checkpoint.replay in
    let empty = (c.no_mark_stands_twice.ensures.at_first t.net_id t.slots).sound in
    let base = entries v (empty_table t.net_id t.slots) journal.base journal.checkpoint.entries empty replay.each replay.leads in
    batches_sound entries v journal.base holds.contents.journal.header.sequence holds.contents.journal.batches t seq base journal.batches
