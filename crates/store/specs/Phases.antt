-- What the disk of a store holds while one batch is under way.
use Rattle.std.specs.Prelude.{◌≡◌, ◌⊎◌, ℕ, List, length}
use Rattle.gate_log.specs.Areas.{LogContents, contents_with_batch}
use Rattle.gate_log.specs.Layout.{BatchValue}
use Rattle.gate_log.specs.Log.{IsAtRest}
use Rattle.gate_log.specs.Phases.{IsBegun, IsWritten, IsBodySynced, IsGateWritten, bytes_of}
use Rattle.gate_log.specs.Phases.{written_size as log_written_size}
use Rattle.gate_log.specs.Phases.{body_synced_size as log_body_synced_size}
use Rattle.gate_log.specs.Phases.{gate_written_size as log_gate_written_size}
use Rattle.sessions.specs.declared.decision.Decision.{Decision}
use Rattle.record_codec.specs.Version.{newest}
use Rattle.store_layout.specs.Entries.{SpellsEntriesOf}
use Rattle.store.specs.declared.phases.Begun.{Begun}
use Rattle.store.specs.declared.phases.Written.{Written}
use Rattle.store.specs.declared.phases.BodySynced.{BodySynced}
use Rattle.store.specs.declared.phases.GateWritten.{GateWritten}
use Rattle.store.specs.declared.phases.Durable.{Durable}
use Rattle.store.specs.Commit.{Sequel, sequel_of, table_after}
use Rattle.store.specs.Image.{HoldsTable, Says}
use Rattle.store.specs.State.{StoreState}

-- the sequel of each phase, and how many bytes of the journal it takes
abbrev pub begun_sequel : Begun → Sequel
begun_sequel begun = sequel_of begun.commit

abbrev pub begun_size : Begun → ℕ
begun_size begun = length (bytes_of begun.phase)

-- its bytes are one entry for each decision of the batch, in order, after the batch's last number
-- and the number of entries
abbrev pub HasEntries : Begun → Type 0
HasEntries begun =
    (entries : List ℕ) × SpellsEntriesOf newest begun.commit.batch entries
    × IsBegun begun.phase (record {
      last_sequence = begun.commit.last;
      entry_count = length begun.commit.batch;
      entries = entries;
    })

abbrev pub written_sequel : Written → Sequel
written_sequel written = sequel_of written.commit

abbrev pub written_size : Written → ℕ
written_size written = log_written_size written.phase

abbrev pub body_synced_sequel : BodySynced → Sequel
body_synced_sequel phase = sequel_of phase.commit

abbrev pub body_synced_size : BodySynced → ℕ
body_synced_size phase = log_body_synced_size phase.phase

abbrev pub gate_written_sequel : GateWritten → Sequel
gate_written_sequel phase = sequel_of phase.commit

abbrev pub gate_written_size : GateWritten → ℕ
gate_written_size phase = log_gate_written_size phase.phase

abbrev pub durable_decisions : Durable → List Decision
durable_decisions durable = durable.batch

-- the batch as the journal has it: without it the contents say the store's table and number, and
-- with it the sequel's
pub record Journals (s : StoreState) (sequel : Sequel) (c : LogContents)
    (b : BatchValue) : Type 0 where
  pub slots : (table_after s sequel).slots ≡ s.table.slots
  pub before : Says newest c s.table s.seq
  pub after : Says newest (contents_with_batch c b) (table_after s sequel) sequel.seq

-- an image holds the table and number from before the sequel, or those that it leaves
abbrev pub HoldsEither : StoreState → Sequel → List ℕ → Type 0
HoldsEither s sequel image =
    HoldsTable s.table s.seq image ⊎ HoldsTable (table_after s sequel) sequel.seq image

-- nothing of the batch is written
pub record IsBegunOn (s : StoreState) (begun : Begun) : Type 0 where
  pub contents : LogContents
  pub batch : BatchValue
  pub journals : Journals s (begun_sequel begun) contents batch
  pub rest : IsAtRest s.log contents
  pub bytes : IsBegun begun.phase batch

-- its body is written, and may be torn
pub record IsWrittenOn (s : StoreState) (written : Written) : Type 0 where
  pub contents : LogContents
  pub batch : BatchValue
  pub journals : Journals s (written_sequel written) contents batch
  pub log : IsWritten s.log contents batch (written_size written)

-- its body is on the disk
pub record IsBodySyncedOn (s : StoreState) (phase : BodySynced) : Type 0 where
  pub contents : LogContents
  pub batch : BatchValue
  pub journals : Journals s (body_synced_sequel phase) contents batch
  pub log : IsBodySynced s.log contents batch (body_synced_size phase)

-- its gate is open, and that write may be torn
pub record IsGateWrittenOn (s : StoreState) (phase : GateWritten) : Type 0 where
  pub contents : LogContents
  pub batch : BatchValue
  pub journals : Journals s (gate_written_sequel phase) contents batch
  pub log : IsGateWritten s.log contents batch (gate_written_size phase)
