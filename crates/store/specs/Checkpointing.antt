-- What the disk of a store holds while a checkpoint is under way: the same table and number
-- throughout.
use Rattle.std.specs.Prelude.{◌≡◌, ◌⊎◌, ◌<◌, ◌≤◌, ℕ, ◌+◌, List, length, MatchBool, MatchResult}
use Rattle.std.specs.Prelude.{Result, Err}
use Rattle.gate_log.specs.declared.checkpoint.Checkpoint.{Checkpoint as LogCheckpoint}
use Rattle.gate_log.specs.declared.layout.Header.{Header}
use Rattle.gate_log.specs.Layout.{IsHeader}
use Rattle.gate_log.specs.Areas.{LogContents, MayFollowContents, contents_with_checkpoint}
use Rattle.gate_log.specs.Checkpointing.{IsCheckpoint as IsLogCheckpoint}
use Rattle.gate_log.specs.Checkpointing.{IsRetiring as IsLogRetiring}
use Rattle.gate_log.specs.Checkpointing.{IsCheckpointWritten as IsLogWritten}
use Rattle.gate_log.specs.Checkpointing.{IsCheckpointSynced as IsLogSynced}
use Rattle.gate_log.specs.Checkpointing.{IsCheckpointOpened as IsLogOpened, checkpoint_bytes}
use Rattle.gate_log.specs.Checkpointing.{written_front, synced_front, opened_front}
use Rattle.gate_log.specs.Log.{IsAtRest}
use Rattle.sessions.specs.Table.{TableState}
use Rattle.lw_types.specs.declared.refusal.Refusal.{Refusal}
use Rattle.lw_types.specs.declared.refusal.Refusal.TheVariants.{Damaged, Failed, OutOfMemory}
use Rattle.record_codec.specs.declared.version.RecordVersion.{RecordVersion}
use Rattle.record_codec.specs.Version.{newest, version_byte}
use Rattle.store_layout.specs.Entries.{entries, entries_of_table}
use Rattle.store.specs.declared.checkpointing.Checkpoint.{Checkpoint}
use Rattle.store.specs.declared.checkpointing.Retiring.{Retiring}
use Rattle.store.specs.declared.checkpointing.CheckpointWritten.{CheckpointWritten}
use Rattle.store.specs.declared.checkpointing.CheckpointSynced.{CheckpointSynced}
use Rattle.store.specs.declared.checkpointing.CheckpointOpened.{CheckpointOpened}
use Rattle.store.specs.declared.areas.TheConstants.{LAST_GENERATION}
use Rattle.store.specs.declared.store.TheConstants.{LARGEST_BATCH}
use Rattle.store.specs.Image.{Says}
use Rattle.store.specs.State.{StoreState}

-- the number of bytes from the area's gate to the gate of a checkpoint's first batch, in each phase
abbrev pub checkpoint_size : Checkpoint → ℕ
checkpoint_size begun = length (checkpoint_bytes begun.phase)

abbrev pub retiring_size : Retiring → ℕ
retiring_size retiring = length (checkpoint_bytes retiring.checkpoint)

abbrev pub checkpoint_written_size : CheckpointWritten → ℕ
checkpoint_written_size written = (written_front written.phase).len

abbrev pub checkpoint_synced_size : CheckpointSynced → ℕ
checkpoint_synced_size synced = (synced_front synced.phase).len

abbrev pub checkpoint_opened_size : CheckpointOpened → ℕ
checkpoint_opened_size opened = (opened_front opened.phase).len

-- a checkpoint of this size fits the other area, and leaves room there for the largest batch
abbrev pub FitsOther : StoreState → ℕ → Type 0
FitsOther s size = s.log.areas.other.start + size + LARGEST_BATCH ≤ s.log.areas.other.end

-- the header of a checkpoint of a table and a number after an area of this generation, with
-- `records_len` bytes of records: the checkpoint is of the next generation and of the newest
-- version
abbrev pub header_behind : TableState → ℕ → ℕ → ℕ → Header
header_behind t seq generation records_len = record {
  version = version_byte newest;
  generation = generation + 1;
  sequence = seq;
  record_count = length t.devices;
  records_len = records_len;
}

-- it has that header, and the table's entries
abbrev pub IsCheckpointOfTable : LogCheckpoint → TableState → ℕ → ℕ → Type 0
IsCheckpointOfTable begun t seq generation =
    let records = entries newest (entries_of_table t) in
    IsLogCheckpoint begun (header_behind t seq generation (length records)) records
    × IsHeader (header_behind t seq generation (length records))

-- that of a store's table
abbrev pub next_header : StoreState → ℕ → Header
next_header s records_len = header_behind s.table s.seq s.log.generation records_len

-- Why no checkpoint is begun: a call of the disk has failed, or else the live area has the last
-- generation, each of them exactly then; or memory ran out.
abbrev pub IsCheckpointAnswer : StoreState → Result Checkpoint Refusal → Type 0
IsCheckpointAnswer s result =
    MatchBool s.failed
    (result ≡ Err Failed)
    (MatchResult result
    (λ _. s.log.generation < LAST_GENERATION)
    (λ e. ((e ≡ Damaged) × (LAST_GENERATION ≤ s.log.generation))
    ⊎ ((e ≡ OutOfMemory) × (s.log.generation < LAST_GENERATION))))

-- the contents say a table and a number, in records of a version, and so does the checkpoint that
-- may follow them, which is of the next generation and in the newest version
pub record Republishes (version : RecordVersion) (t : TableState) (seq : ℕ) (c : LogContents)
    (header : Header) (records : List ℕ) : Type 0 where
  pub before : Says version c t seq
  pub after : Says newest (contents_with_checkpoint c header records) t seq
  pub follows : MayFollowContents c header records
  pub next : header.generation ≡ c.journal.header.generation + 1

-- nothing of the checkpoint is written
pub record IsCheckpointOn (s : StoreState) (begun : Checkpoint) : Type 0 where
  pub contents : LogContents
  pub header : Header
  pub records : List ℕ
  pub republishes : Republishes newest s.table s.seq contents header records
  pub rest : IsAtRest s.log contents
  pub bytes : IsLogCheckpoint begun.phase header records

-- the other area's gate is closed, and that write may be torn
pub record IsRetiringOn (s : StoreState) (retiring : Retiring) : Type 0 where
  pub contents : LogContents
  pub header : Header
  pub records : List ℕ
  pub republishes : Republishes newest s.table s.seq contents header records
  pub log : IsLogRetiring s.log contents
  pub bytes : IsLogCheckpoint retiring.checkpoint header records

-- the checkpoint is written, and may be torn
pub record IsCheckpointWrittenOn (s : StoreState) (written : CheckpointWritten) : Type 0 where
  pub contents : LogContents
  pub header : Header
  pub records : List ℕ
  pub republishes : Republishes newest s.table s.seq contents header records
  pub log : IsLogWritten s.log contents header records (written_front written.phase)

-- it is on the disk
pub record IsCheckpointSyncedOn (s : StoreState) (synced : CheckpointSynced) : Type 0 where
  pub contents : LogContents
  pub header : Header
  pub records : List ℕ
  pub republishes : Republishes newest s.table s.seq contents header records
  pub log : IsLogSynced s.log contents header records (synced_front synced.phase)

-- its gate is open, and that write may be torn
pub record IsCheckpointOpenedOn (s : StoreState) (opened : CheckpointOpened) : Type 0 where
  pub contents : LogContents
  pub header : Header
  pub records : List ℕ
  pub republishes : Republishes newest s.table s.seq contents header records
  pub log : IsLogOpened s.log contents header records (opened_front opened.phase)
