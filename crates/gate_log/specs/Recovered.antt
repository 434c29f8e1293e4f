-- What is recovered of a disk.
use Rattle.std.specs.Prelude.{◌≡◌, ◌+◌, ℕ, List, length}
use Rattle.gate_log.specs.declared.layout.Area.{Area}
use Rattle.gate_log.specs.declared.layout.Areas.{Areas}
use Rattle.gate_log.specs.declared.recover.Recovered.{Recovered}
use Rattle.gate_log.specs.Areas.{LogContents, Holds, HoldsIn, contents_in}
use Rattle.gate_log.specs.Layout.{Journal, spelling}

abbrev pub journal_of : Recovered → Journal
journal_of r = record { header = r.header; records = r.records.items; batches = r.batches.items }

-- the area has what was recovered, and nothing else
pub record IsRecoveredIn (area : Area) (disk : List ℕ) (r : Recovered) : Type 0 where
  pub holds : HoldsIn area (journal_of r) disk
  pub next : r.next ≡ area.start + length (spelling (journal_of r))
  pub only : (j : Journal) → HoldsIn area j disk → j ≡ journal_of r

-- the contents of a disk with what was recovered in the live area
abbrev pub contents_of : Areas → List ℕ → Recovered → LogContents
contents_of areas disk r = contents_in areas disk (journal_of r)

-- the disk holds what was recovered in the live one of these areas
pub record IsRecovered (areas : Areas) (disk : List ℕ) (r : Recovered) : Type 0 where
  pub holds : Holds (contents_of areas disk r) disk
  pub next : r.next ≡ areas.live.start + length (spelling (journal_of r))
