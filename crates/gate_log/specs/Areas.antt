-- What a disk with two areas holds: the journal of the live one. The other one is closed, or of an
-- earlier generation.
use Rattle.std.specs.Prelude.{◌≡◌, ◌≢◌, ◌⊎◌, ◌<◌, ◌≤◌, ◌+◌, ℕ, List, ◌∷◌, ◌++◌, length, min, take}
use Rattle.std.specs.Prelude.{slice_index, slice_range}
use Rattle.gate_log.specs.declared.layout.Area.{Area}
use Rattle.gate_log.specs.declared.layout.Areas.{Areas}
use Rattle.gate_log.specs.declared.layout.Header.{Header}
use Rattle.gate_log.specs.declared.layout.TheConstants.{EMPTY_AREA_LEN, OPEN}
use Rattle.gate_log.specs.Layout.{BatchValue, IsHeader, IsJournal, Journal, checkpoint}
use Rattle.gate_log.specs.Layout.{header_bytes, spelling, with_batch}

-- the bytes of an area
abbrev pub bytes_in : Area → List ℕ → List ℕ
bytes_in area disk = slice_range disk area.start area.end

-- the number of bytes before both areas
abbrev pub front_len : Areas → ℕ
front_len areas = min areas.live.start areas.other.start

-- each area has room for a header and a gate and lies on a disk of this size, and they share no
-- byte
pub record AreLaidOut (areas : Areas) (size : ℕ) : Type 0 where
  pub live_room : areas.live.start + EMPTY_AREA_LEN ≤ areas.live.end
  pub other_room : areas.other.start + EMPTY_AREA_LEN ≤ areas.other.end
  pub live_within : areas.live.end ≤ size
  pub other_within : areas.other.end ≤ size
  pub apart : (i : ℕ) → areas.live.start ≤ i → i < areas.live.end → areas.other.start ≤ i
      → i < areas.other.end → ⊥

-- the gate of an area is open, or not
abbrev pub IsOpenArea : Area → List ℕ → Type 0
IsOpenArea area disk = slice_index disk area.start ≡ OPEN

abbrev pub IsClosedArea : Area → List ℕ → Type 0
IsClosedArea area disk = slice_index disk area.start ≢ OPEN

-- an area begins with these bytes, and a closed gate follows them, so nothing after that counts
pub record IsShutArea (area : Area) (before disk : List ℕ) : Type 0 where
  pub gate : ℕ
  pub free : List ℕ
  pub bytes : bytes_in area disk ≡ before ++ (gate ∷ free)
  pub closed : gate ≢ OPEN

-- after that closed gate come these bytes, and then a closed gate again
pub record IsStaged (area : Area) (before staged disk : List ℕ) : Type 0 where
  pub gate : ℕ
  pub next_gate : ℕ
  pub free : List ℕ
  pub bytes : bytes_in area disk ≡ before ++ (gate ∷ (staged ++ (next_gate ∷ free)))
  pub closed : gate ≢ OPEN
  pub next_closed : next_gate ≢ OPEN

-- an area has this header after its open gate
pub record HasHeader (area : Area) (h : Header) (disk : List ℕ) : Type 0 where
  pub rest : List ℕ
  pub bytes : bytes_in area disk ≡ OPEN ∷ (header_bytes h ++ rest)
  pub in_range : IsHeader h

-- an area is closed, or of an earlier generation
abbrev pub IsOlder : ℕ → Area → List ℕ → Type 0
IsOlder generation area disk = (h : Header) → HasHeader area h disk → h.generation < generation

-- an area has this journal, and a closed gate after it
pub record HoldsIn (area : Area) (j : Journal) (disk : List ℕ) : Type 0 where
  pub shut : IsShutArea area (spelling j) disk
  pub in_range : IsJournal j

-- what a disk with two areas holds
pub record LogContents : Type 0 where
  pub areas : Areas
  -- the bytes before both areas
  pub front : List ℕ
  -- the journal of the live one
  pub journal : Journal
  -- the length of the disk
  pub size : ℕ

pub record Holds (c : LogContents) (disk : List ℕ) : Type 0 where
  pub layout : AreLaidOut c.areas c.size
  pub size : length disk ≡ c.size
  pub front : take (front_len c.areas) disk ≡ c.front
  pub live : HoldsIn c.areas.live c.journal disk
  pub other : IsOlder c.journal.header.generation c.areas.other disk

-- a disk holds one of these two contents
abbrev pub HoldsOneOf : LogContents → LogContents → List ℕ → Type 0
HoldsOneOf c d disk = Holds c disk ⊎ Holds d disk

-- the contents with one more batch
abbrev pub contents_with_batch : LogContents → BatchValue → LogContents
contents_with_batch c b =
    record { areas = c.areas; front = c.front; journal = with_batch c.journal b; size = c.size }

-- the live area and the other one change places
abbrev pub exchanged_areas : Areas → Areas
exchanged_areas areas = record { live = areas.other; other = areas.live }

-- the contents after a checkpoint, which stands in the area that was the other one
abbrev pub contents_with_checkpoint : LogContents → Header → List ℕ → LogContents
contents_with_checkpoint c header records =
    record {
      areas = exchanged_areas c.areas;
      front = c.front;
      journal = checkpoint header records;
      size = c.size;
    }

-- a checkpoint that may follow: its numbers have their widths, and its generation is later
pub record MayFollowContents (c : LogContents) (header : Header) (records : List ℕ) : Type 0 where
  pub later : c.journal.header.generation < header.generation
  pub in_range : IsHeader header
  pub len : length records ≡ header.records_len

-- what a disk holds in these areas if the live one has this journal
abbrev pub contents_in : Areas → List ℕ → Journal → LogContents
contents_in areas disk j =
    record { areas = areas; front = take (front_len areas) disk; journal = j; size = length disk }

-- one of two areas is the live one: it is open, and the other one is closed or of an earlier
-- generation
pub record IsLiveArea (areas : Areas) (h : Header) (disk : List ℕ) : Type 0 where
  pub header : HasHeader areas.live h disk
  pub other : IsOlder h.generation areas.other disk

-- these are the two areas, in either order
abbrev pub AreOf : Area → Area → Areas → Type 0
AreOf a b areas =
    (areas ≡ record { live = a; other = b }) ⊎ (areas ≡ record { live = b; other = a })

-- neither of two areas is the live one: both are closed, or both open with the same generation
abbrev pub NoLiveArea : Area → Area → List ℕ → Type 0
NoLiveArea a b disk =
    (IsClosedArea a disk × IsClosedArea b disk)
    ⊎ ((h k : Header) × HasHeader a h disk × HasHeader b k disk × (h.generation ≡ k.generation))
