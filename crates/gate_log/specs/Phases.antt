-- What a log's disk holds while one batch is under way.
use Rattle.std.specs.Prelude.{◌≡◌, ◌≢◌, ℕ, ◌+◌, List, [], ◌∷◌, ◌++◌, length}
use Rattle.disk.specs.State.{EveryImage, NothingOpen}
use Rattle.gate_log.specs.declared.layout.TheConstants.{OPEN}
use Rattle.gate_log.specs.declared.phases.Begun.{Begun}
use Rattle.gate_log.specs.declared.phases.BodySynced.{BodySynced}
use Rattle.gate_log.specs.declared.phases.GateWritten.{GateWritten}
use Rattle.gate_log.specs.declared.phases.Written.{Written}
use Rattle.gate_log.specs.Areas.{LogContents, Holds, HoldsOneOf, IsStaged, contents_with_batch}
use Rattle.gate_log.specs.Layout.{BatchValue, IsHead, body, head_of, spelling}
use Rattle.gate_log.specs.Log.{Knows, KnowsOther, LogState}

-- the bytes of a batch that is begun: its body and the closed gate after it
abbrev pub bytes_of : Begun → List ℕ
bytes_of begun = begun.bytes.items

pub record IsBegun (begun : Begun) (b : BatchValue) : Type 0 where
  pub gate : ℕ
  pub bytes : bytes_of begun ≡ body b ++ gate ∷ []
  pub closed : gate ≢ OPEN
  pub head : IsHead (head_of b)

-- the number of bytes from the batch's gate to the next one
abbrev pub written_size : Written → ℕ
written_size phase = phase.size

abbrev pub body_synced_size : BodySynced → ℕ
body_synced_size phase = phase.size

abbrev pub gate_written_size : GateWritten → ℕ
gate_written_size phase = phase.size

-- after the closed gate of the next batch stands a whole batch of this size, and then a closed gate
pub record StagesBatch (log : LogState) (c : LogContents) (b : BatchValue) (size : ℕ) : Type 0 where
  pub staged : IsStaged c.areas.live (spelling c.journal) (body b) log.disk.content
  pub head : IsHead (head_of b)
  pub bytes : size ≡ length (body b) + 1
  pub knows : Knows log c
  pub other_gate : KnowsOther log c

-- the batch's body is written, and each image that a crash may leave holds the contents without the
-- batch
pub record IsWritten (log : LogState) (c : LogContents) (b : BatchValue) (size : ℕ) : Type 0 where
  pub stages : StagesBatch log c b size
  pub images : EveryImage log.disk (Holds c)

-- the batch's body is on the disk, and a crash changes nothing
pub record IsBodySynced (log : LogState) (c : LogContents) (b : BatchValue)
    (size : ℕ) : Type 0 where
  pub stages : StagesBatch log c b size
  pub settled : NothingOpen log.disk
  pub holds : Holds c log.disk.content

-- the gate is open, and each image that a crash may leave holds the contents with the batch or
-- without it
pub record IsGateWritten (log : LogState) (c : LogContents) (b : BatchValue)
    (size : ℕ) : Type 0 where
  pub holds : Holds (contents_with_batch c b) log.disk.content
  pub images : EveryImage log.disk (HoldsOneOf c (contents_with_batch c b))
  pub bytes : size ≡ length (body b) + 1
  pub knows : Knows log c
  pub other_gate : KnowsOther log c
