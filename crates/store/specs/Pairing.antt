-- What the disk of a store holds while a second batch is under way after one whose gate is open.
use Rattle.std.specs.Prelude.{◌≡◌, ◌≤◌, ◌+◌, ℕ}
use Rattle.gate_log.specs.Areas.{LogContents, contents_with_batch}
use Rattle.gate_log.specs.Layout.{BatchValue}
use Rattle.gate_log.specs.Pairing.{IsPaired}
use Rattle.gate_log.specs.Pairing.{paired_next_size as log_paired_next_size}
use Rattle.gate_log.specs.Pairing.{paired_size as log_paired_size}
use Rattle.gate_log.specs.Phases.{IsBegun}
use Rattle.record_codec.specs.Version.{newest}
use Rattle.sessions.specs.Decision.{with_decisions}
use Rattle.sessions.specs.Table.{TableState}
use Rattle.store.specs.declared.pairing.Paired.{Paired}
use Rattle.store.specs.declared.phases.Begun.{Begun}
use Rattle.store.specs.declared.phases.GateWritten.{GateWritten}
use Rattle.store.specs.declared.store.TheConstants.{LARGEST_BATCH}
use Rattle.store.specs.Commit.{Sequel, IsUnderWay, MayFollow, sequel_of, table_after, tip_behind}
use Rattle.store.specs.Image.{Says}
use Rattle.store.specs.Phases.{Journals, begun_sequel, begun_size, gate_written_sequel}
use Rattle.store.specs.Phases.{gate_written_size}
use Rattle.store.specs.State.{StoreState}

-- the sequel of each of two batches, and how many bytes of the journal it takes
abbrev pub paired_sequel : Paired → Sequel
paired_sequel paired = sequel_of paired.commit

abbrev pub paired_size : Paired → ℕ
paired_size paired = log_paired_size paired.phase

abbrev pub following_sequel : Paired → Sequel
following_sequel paired = sequel_of paired.following

abbrev pub following_size : Paired → ℕ
following_size paired = log_paired_next_size paired.phase

-- the largest batch fits after the batch under way
abbrev pub IsRoomyBehind : StoreState → GateWritten → Type 0
IsRoomyBehind s opened =
    s.log.next + gate_written_size opened + LARGEST_BATCH ≤ s.log.areas.live.end

-- the table that the batch under way leaves
abbrev pub table_behind : StoreState → GateWritten → TableState
table_behind s opened = table_after s (gate_written_sequel opened)

-- a batch that is begun may follow the batch under way
abbrev pub MayFollowBehind : StoreState → GateWritten → Begun → Type 0
MayFollowBehind s opened begun =
    MayFollow (tip_behind s (gate_written_sequel opened) (gate_written_size opened))
    (begun_sequel begun) (begun_size begun)

-- both batches are under way in this store, the second after the first
pub record AreUnderWay (s : StoreState) (paired : Paired) : Type 0 where
  pub first : IsUnderWay s (paired_sequel paired) (paired_size paired)
  pub second : MayFollow (tip_behind s (paired_sequel paired) (paired_size paired))
      (following_sequel paired) (following_size paired)

-- if contents say this table and number, then with the batch they say what the sequel leaves
pub record Extends (t : TableState) (seq : ℕ) (sequel : Sequel)
    (b : BatchValue) : Type 0 where
  pub slots : (with_decisions t sequel.decisions).slots ≡ t.slots
  pub says : (c : LogContents) → Says newest c t seq
      → Says newest (contents_with_batch c b) (with_decisions t sequel.decisions) sequel.seq

-- nothing of the following batch is written
pub record IsBegunBehind (s : StoreState) (opened : GateWritten) (begun : Begun) : Type 0 where
  pub batch : BatchValue
  pub extends : Extends (table_behind s opened) (gate_written_sequel opened).seq
      (begun_sequel begun) batch
  pub bytes : IsBegun begun.phase batch

-- the first batch's gate is open and the following one's body is written, and both may be torn
pub record IsPairedOn (s : StoreState) (paired : Paired) : Type 0 where
  pub contents : LogContents
  pub batch : BatchValue
  pub following : BatchValue
  pub journals : Journals s (paired_sequel paired) contents batch
  pub extends : Extends (table_after s (paired_sequel paired)) (paired_sequel paired).seq
      (following_sequel paired) following
  pub log : IsPaired s.log contents batch following (paired_size paired) (following_size paired)
