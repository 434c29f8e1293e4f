-- What the bytes of an area say: a checkpoint and the batches after it, each with its gate in
-- front.
use Rattle.std.specs.Prelude.{◌≡◌, ◌<◌, ◌≤◌, ◌^◌, ℕ, ◌+◌, List, [], ◌∷◌, ◌++◌, length}
use Rattle.std.specs.Int.{to_be_bytes, w16, w32, w64}
use Rattle.gate_log.specs.declared.layout.Area.{Area}
use Rattle.gate_log.specs.declared.layout.Header.{Header}
use Rattle.gate_log.specs.declared.layout.BatchHead.{BatchHead}
use Rattle.gate_log.specs.declared.layout.TheConstants.{EMPTY_AREA_LEN, OPEN}

-- a batch: its head's numbers, and its entries as bytes
pub record BatchValue : Type 0 where
  pub last_sequence : ℕ
  pub entry_count : ℕ
  pub entries : List ℕ

-- what a live area has: a checkpoint, and the batches after it
pub record Journal : Type 0 where
  pub header : Header
  pub records : List ℕ
  pub batches : List BatchValue

-- the fields of a header, the highest byte of each first
unfoldable pub header_bytes : Header → List ℕ
header_bytes h =
    h.version
    ∷ (to_be_bytes w64 h.generation
    ++ (to_be_bytes w64 h.sequence
    ++ (to_be_bytes w32 h.record_count ++ to_be_bytes w64 h.records_len)))

-- the fields of a batch's head, the highest byte of each first
unfoldable pub head_bytes : BatchHead → List ℕ
head_bytes h =
    to_be_bytes w32 h.entries_len
    ++ (to_be_bytes w64 h.last_sequence ++ to_be_bytes w16 h.entry_count)

abbrev pub head_of : BatchValue → BatchHead
head_of b =
    record {
      entries_len = length b.entries;
      last_sequence = b.last_sequence;
      entry_count = b.entry_count;
    }

-- what follows a batch's gate
abbrev pub body : BatchValue → List ℕ
body b = head_bytes (head_of b) ++ b.entries

-- batches, each after its open gate
abbrev pub open_batches : List BatchValue → List ℕ
open_batches [] = []
open_batches (b ∷ batches) = OPEN ∷ (body b ++ open_batches batches)

-- a journal from its area's open gate to the gate of the next batch
abbrev pub spelling : Journal → List ℕ
spelling j = OPEN ∷ (header_bytes j.header ++ (j.records ++ open_batches j.batches))

-- the numbers have their widths
pub record IsHeader (h : Header) : Type 0 where
  pub version : h.version < 2 ^ 8
  pub generation : h.generation < 2 ^ 64
  pub sequence : h.sequence < 2 ^ 64
  pub record_count : h.record_count < 2 ^ 32
  pub records_len : h.records_len < 2 ^ 64

-- the records of which a header gives the length fit the area, with the gate after them
abbrev pub HasRoomFor : Area → Header → Type 0
HasRoomFor area h = area.start + EMPTY_AREA_LEN + h.records_len ≤ area.end

pub record IsHead (h : BatchHead) : Type 0 where
  pub entries_len : h.entries_len < 2 ^ 32
  pub last_sequence : h.last_sequence < 2 ^ 64
  pub entry_count : h.entry_count < 2 ^ 16

abbrev pub AreHeads : List BatchValue → Type 0
AreHeads [] = Unit {0}
AreHeads (b ∷ batches) = IsHead (head_of b) × AreHeads batches

-- each number has its width, and the header gives the length of the records
pub record IsJournal (j : Journal) : Type 0 where
  pub header : IsHeader j.header
  pub records : length j.records ≡ j.header.records_len
  pub batches : AreHeads j.batches

-- the journal with one more batch
abbrev pub with_batch : Journal → BatchValue → Journal
with_batch j b = record { header = j.header; records = j.records; batches = j.batches ++ b ∷ [] }

-- a journal that begins: a checkpoint, and no batch yet
abbrev pub checkpoint : Header → List ℕ → Journal
checkpoint header records = record { header = header; records = records; batches = [] }

-- the header of an area that was never written before
abbrev pub fresh_header : ℕ → Header
fresh_header version =
    record { version = version; generation = 1; sequence = 0; record_count = 0; records_len = 0 }
