-- What the disk of a store says: a table and the number of its last decision.
use Rattle.std.specs.Prelude.{◌≡◌, ◌<◌, ◌≤◌, ℕ, ◌+◌, List, [], ◌∷◌, ◌++◌, length}
use Rattle.gate_log.specs.declared.layout.Area.{Area}
use Rattle.gate_log.specs.declared.layout.Areas.{Areas}
use Rattle.gate_log.specs.declared.layout.Header.{Header}
use Rattle.gate_log.specs.Areas.{AreOf, LogContents, Holds, IsLiveArea, NoLiveArea}
use Rattle.gate_log.specs.Layout.{BatchValue}
use Rattle.sessions.specs.Table.{TableState, IsSlots, empty_table}
use Rattle.sessions.specs.declared.batch.TheConstants.Batch.{MOST}
use Rattle.store_layout.specs.Superblock.{area_len, disk_len, superblock}
use Rattle.store_layout.specs.declared.superblock.TheConstants.Superblock.{LEN}
use Rattle.record_codec.specs.declared.version.RecordVersion.{RecordVersion}
use Rattle.record_codec.specs.declared.version.RecordVersion.TheVariants.{V1, V2}
use Rattle.record_codec.specs.Version.{version_byte}
use Rattle.store_layout.specs.Entries.{EntryValue, Replay, ReplayGoesOn}
use Rattle.store.specs.declared.areas.TheConstants.{LAST_GENERATION, LAST_OLD_GENERATION}

-- the first area, after the superblock
abbrev pub area_a : ℕ → Area
area_a slots = record { start = LEN; end = LEN + area_len slots }

-- the second area, after the first
abbrev pub area_b : ℕ → Area
area_b slots = record { start = LEN + area_len slots; end = LEN + area_len slots + area_len slots }

-- the two areas of a store with this number of slots, one of them the live one
abbrev pub AreAreas : ℕ → Areas → Type 0
AreAreas slots areas = AreOf (area_a slots) (area_b slots) areas

-- each of the two areas has the length of one for this number of slots
pub record HaveLength (slots : ℕ) (areas : Areas) : Type 0 where
  pub live : areas.live.start + area_len slots ≡ areas.live.end
  pub other : areas.other.start + area_len slots ≡ areas.other.end

-- the live area of a store with this number of slots, and its header
pub record IsLive (image : List ℕ) (slots : ℕ) (areas : Areas) (header : Header) : Type 0 where
  pub place : AreAreas slots areas
  pub at : IsLiveArea areas header image

-- no area is live
abbrev pub NoneLive : List ℕ → ℕ → Type 0
NoneLive image slots = NoLiveArea (area_a slots) (area_b slots) image

-- `count` records, each of a different slot, that make up this table
pub record IsCheckpointOf (version : RecordVersion) (net_id slots : ℕ) (records : List ℕ)
    (count : ℕ) (t : TableState) : Type 0 where
  pub entries : List EntryValue
  pub replay : Replay version (empty_table net_id slots) records count entries t
  pub own_slots : length t.devices ≡ count

-- a batch of 1 to 64 entries that lead from one table to another, with numbers that follow a given
-- one
pub record IsBatchOn (version : RecordVersion) (t : TableState) (seq : ℕ) (b : BatchValue)
    (entries : List EntryValue) (u : TableState) : Type 0 where
  pub replay : Replay version t b.entries b.entry_count entries u
  pub some : 1 ≤ b.entry_count
  pub few : b.entry_count ≤ MOST
  pub number : b.last_sequence ≡ seq + b.entry_count

-- batches lead from one table and number to another
abbrev pub BatchesLead : RecordVersion → TableState → ℕ → List BatchValue → TableState → ℕ → Type 0
BatchesLead version t seq [] u n = (u ≡ t) × (n ≡ seq)
BatchesLead version t seq (b ∷ batches) u n =
    (entries : List EntryValue) × (next : TableState) × IsBatchOn version t seq b entries next
    × BatchesLead version next b.last_sequence batches u n

-- The batch leads on from this table and number up to some entry of it, for which memory may be
-- needed.
pub record BatchGoesOn (version : RecordVersion) (t : TableState) (seq : ℕ)
    (b : BatchValue) : Type 0 where
  pub some : 1 ≤ b.entry_count
  pub few : b.entry_count ≤ MOST
  pub number : b.last_sequence ≡ seq + b.entry_count
  pub goes_on : ReplayGoesOn version t b.entries b.entry_count

-- and so does one of these batches, from where those before it lead
pub record BatchesGoOn (version : RecordVersion) (t : TableState) (seq : ℕ)
    (batches : List BatchValue) : Type 0 where
  pub front : List BatchValue
  pub next : BatchValue
  pub behind : List BatchValue
  pub parts : batches ≡ front ++ next ∷ behind
  pub here : TableState
  pub last : ℕ
  pub leads : BatchesLead version t seq front here last
  pub goes_on : BatchGoesOn version here last next

-- the table and number to which the checkpoint and the batches after it lead
pub record Restores (version : RecordVersion) (net_id slots : ℕ) (header : Header)
    (records : List ℕ) (later : List BatchValue) (t : TableState) (seq : ℕ) : Type 0 where
  pub base : TableState
  pub checkpoint : IsCheckpointOf version net_id slots records header.record_count base
  pub batches : BatchesLead version base header.sequence later t seq

-- The greatest generation of an area with records of a version. After one of an older version one
-- more generation has to follow, in the newest version.
abbrev pub last_generation : RecordVersion → ℕ
last_generation V1 = LAST_OLD_GENERATION
last_generation V2 = LAST_GENERATION

-- the contents of a disk, with records of a version, are those of a store with this table and
-- number: the superblock stands at the beginning, and the journal leads there
pub record Says (version : RecordVersion) (c : LogContents) (t : TableState)
    (seq : ℕ) : Type 0 where
  pub net_id : t.net_id < 64
  pub slots : IsSlots t.slots
  pub areas : AreAreas t.slots c.areas
  pub front : c.front ≡ superblock t.net_id t.slots
  pub size : c.size ≡ disk_len t.slots
  pub of_version : c.journal.header.version ≡ version_byte version
  pub generation : c.journal.header.generation ≤ last_generation version
  pub journal : Restores version t.net_id t.slots c.journal.header c.journal.records
      c.journal.batches t seq

-- the image of a disk holds a store with this table and number: its live area says so
pub record HoldsTable (t : TableState) (seq : ℕ) (image : List ℕ) : Type 0 where
  pub version : RecordVersion
  pub contents : LogContents
  pub holds : Holds contents image
  pub says : Says version contents t seq
