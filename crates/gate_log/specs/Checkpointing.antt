-- What a log's disk holds while a checkpoint is on its way into the other area.
use Rattle.std.specs.Prelude.{◌≡◌, ◌≢◌, ℕ, ◌+◌, List, [], ◌∷◌, ◌++◌, length}
use Rattle.disk.specs.State.{EveryImage, NothingOpen}
use Rattle.gate_log.specs.declared.checkpoint.Checkpoint.{Checkpoint}
use Rattle.gate_log.specs.declared.checkpoint.CheckpointWritten.{CheckpointWritten}
use Rattle.gate_log.specs.declared.checkpoint.CheckpointSynced.{CheckpointSynced}
use Rattle.gate_log.specs.declared.checkpoint.CheckpointOpened.{CheckpointOpened}
use Rattle.gate_log.specs.declared.checkpoint.CheckpointFront.{CheckpointFront}
use Rattle.gate_log.specs.declared.layout.Header.{Header}
use Rattle.gate_log.specs.declared.layout.TheConstants.{OPEN, RECORDS_AT}
use Rattle.gate_log.specs.Areas.{LogContents, Holds, HoldsOneOf, IsClosedArea, IsOpenArea, IsStaged}
use Rattle.gate_log.specs.Areas.{MayFollowContents, contents_with_checkpoint}
use Rattle.gate_log.specs.Layout.{header_bytes}
use Rattle.gate_log.specs.Log.{Knows, LogState}

-- the bytes of a checkpoint that is begun: header, records, and the first batch's closed gate
abbrev pub checkpoint_bytes : Checkpoint → List ℕ
checkpoint_bytes begun = begun.bytes.items

abbrev pub front_of : Checkpoint → CheckpointFront
front_of begun = record { generation = begun.generation; len = length begun.bytes.items }

pub record IsCheckpoint (begun : Checkpoint) (header : Header) (records : List ℕ) : Type 0 where
  pub gate : ℕ
  pub bytes : checkpoint_bytes begun ≡ (header_bytes header ++ records) ++ gate ∷ []
  pub closed : gate ≢ OPEN
  pub generation : begun.generation ≡ header.generation

abbrev pub written_front : CheckpointWritten → CheckpointFront
written_front phase = phase.front

abbrev pub synced_front : CheckpointSynced → CheckpointFront
synced_front phase = phase.front

abbrev pub opened_front : CheckpointOpened → CheckpointFront
opened_front phase = phase.front

-- the other area's gate is being closed
pub record IsRetiring (log : LogState) (c : LogContents) : Type 0 where
  pub closed : IsClosedArea c.areas.other log.disk.content
  pub images : EveryImage log.disk (Holds c)
  pub knows : Knows log c

-- the phase knows the generation of the checkpoint, and the distance from its area's gate to the
-- first batch's gate
pub record IsFrontOf (front : CheckpointFront) (header : Header) (records : List ℕ) : Type 0 where
  pub generation : front.generation ≡ header.generation
  pub len : front.len ≡ RECORDS_AT + length records

-- after the other area's closed gate stands a whole checkpoint that may follow, and after that a
-- closed gate
pub record StagesCheckpoint (log : LogState) (c : LogContents) (header : Header) (records : List ℕ)
    (front : CheckpointFront) : Type 0 where
  pub staged : IsStaged c.areas.other [] (header_bytes header ++ records) log.disk.content
  pub follows : MayFollowContents c header records
  pub is_front : IsFrontOf front header records
  pub knows : Knows log c

-- the checkpoint is written, and each image that a crash may leave holds the contents from before
-- it
pub record IsCheckpointWritten (log : LogState) (c : LogContents) (header : Header)
    (records : List ℕ) (front : CheckpointFront) : Type 0 where
  pub stages : StagesCheckpoint log c header records front
  pub images : EveryImage log.disk (Holds c)

-- the checkpoint is on the disk, and a crash changes nothing
pub record IsCheckpointSynced (log : LogState) (c : LogContents) (header : Header)
    (records : List ℕ) (front : CheckpointFront) : Type 0 where
  pub stages : StagesCheckpoint log c header records front
  pub settled : NothingOpen log.disk
  pub holds : Holds c log.disk.content

-- its gate is open, and each image that a crash may leave holds the contents from before it or the
-- checkpoint
pub record IsCheckpointOpened (log : LogState) (c : LogContents) (header : Header)
    (records : List ℕ) (front : CheckpointFront) : Type 0 where
  pub holds : Holds (contents_with_checkpoint c header records) log.disk.content
  pub images : EveryImage log.disk (HoldsOneOf c (contents_with_checkpoint c header records))
  pub old_gate : IsOpenArea c.areas.live log.disk.content
  pub is_front : IsFrontOf front header records
  pub knows : Knows log c
