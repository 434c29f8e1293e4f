-- The checkpoint of a store's table says what the journal before it says.
use Rattle.std.proofs.Common.{◌≡◌, ◌⊎◌, ◌∙◌, inl, inr, ◌<◌, ◌≤◌, ◌+◌, ℕ, List, length, sym, ap, subst, refl, arith}
use Rattle.gate_log.specs.declared.layout.Area.{Area}
use Rattle.gate_log.specs.declared.layout.Areas.{Areas}
use Rattle.gate_log.specs.declared.layout.Header.{Header}
use Rattle.gate_log.specs.Areas.{AreOf, LogContents, Holds, HoldsOneOf, MayFollowContents, contents_with_checkpoint, exchanged_areas}
use Rattle.gate_log.specs.Layout.{IsHeader}
use Rattle.sessions.specs.Index.{HaveOwnSlots}
use Rattle.sessions.specs.Table.{IsSlots, TableState, empty_table}
use Rattle.record_codec.specs.declared.version.RecordVersion.{RecordVersion}
use Rattle.record_codec.specs.Version.{newest}
use Rattle.store_layout.specs.Entries.{AreEntries, Replay, entries, entries_of_table}
use Rattle.store_layout.specs.Superblock.{disk_len, superblock}
use Rattle.store.specs.declared.areas.TheConstants.{LAST_GENERATION}
use Rattle.store.specs.Checkpointing.{Republishes, header_behind}
use Rattle.store.specs.Image.{AreAreas, HoldsTable, Says}

-- the entries of a table lead to it
abbrev pub TableLaw : Type 0
TableLaw = (version : RecordVersion) (t : TableState) → HaveOwnSlots t.devices → length t.devices ≤ t.slots
    → AreEntries version (entries_of_table t)
    → Replay version (empty_table t.net_id t.slots) (entries version (entries_of_table t)) (length t.devices) (entries_of_table t) t

swapped_are : (a b : Area) (areas : Areas) → AreOf a b areas → AreOf a b (exchanged_areas areas)
swapped_are a b areas (inl is) = inr (ap exchanged_areas is)
swapped_are a b areas (inr is) = inl (ap exchanged_areas is)

-- A checkpoint of a table may follow what a journal says of another one, of the same network and
-- number of slots, and says the table.
pub record Replaces (t : TableState) (seq : ℕ) (c : LogContents) (header : Header) (records : List ℕ) : Type 0 where
  pub after : Says newest (contents_with_checkpoint c header records) t seq
  pub follows : MayFollowContents c header records

pub replaces : TableLaw → (version : RecordVersion) (c : LogContents) (was t : TableState) (seq generation : ℕ) → Says version c was seq
    → was.net_id ≡ t.net_id → was.slots ≡ t.slots → generation ≡ c.journal.header.generation
    → HaveOwnSlots t.devices → length t.devices ≤ t.slots → AreEntries newest (entries_of_table t) → generation < LAST_GENERATION
    → IsHeader (header_behind t seq generation (length (entries newest (entries_of_table t))))
    → Replaces t seq c (header_behind t seq generation (length (entries newest (entries_of_table t)))) (entries newest (entries_of_table t))
replaces law version c was t seq generation says net_id slots knows own few each early in_range =
    record {
      after = record {
        net_id = subst (λ n. n < 64) net_id says.net_id;
        slots = subst IsSlots slots says.slots;
        areas = swapped_are _ _ c.areas (subst (λ n. AreAreas n c.areas) slots says.areas);
        front = says.front ∙ (λ i. superblock (net_id i) (slots i));
        size = says.size ∙ ap disk_len slots;
        of_version = refl;
        generation = omega (arith, early);
        journal = record {
          base = t;
          checkpoint = record {
            entries = entries_of_table t;
            replay = law newest t own few each;
            own_slots = refl;
          };
          batches = (refl, refl);
        };
      };
      follows = record { later = omega (arith, knows); in_range = in_range; len = refl };
    }

-- that of the journal's own table
pub republishes : TableLaw → (version : RecordVersion) (c : LogContents) (t : TableState) (seq generation : ℕ) → Says version c t seq → generation ≡ c.journal.header.generation
    → HaveOwnSlots t.devices → length t.devices ≤ t.slots → AreEntries newest (entries_of_table t) → generation < LAST_GENERATION
    → IsHeader (header_behind t seq generation (length (entries newest (entries_of_table t))))
    → Republishes version t seq c (header_behind t seq generation (length (entries newest (entries_of_table t)))) (entries newest (entries_of_table t))
republishes law version c t seq generation says knows own few each early in_range =
    let r = replaces law version c t t seq generation says refl refl knows own few each early in_range in
    record {
      before = says;
      after = r.after;
      follows = r.follows;
      next = ap (λ n. n + 1) knows;
    }

-- one of the two tables stands in an image
pub either_table : {version : RecordVersion} {was t : TableState} {seq : ℕ} {c : LogContents} {header : Header} {records : List ℕ} → Says version c was seq
    → Replaces t seq c header records → (image : List ℕ) → HoldsOneOf c (contents_with_checkpoint c header records) image
    → HoldsTable was seq image ⊎ HoldsTable t seq image
either_table {version} {was} {t} {seq} {c} {header} {records} says r image (inl without) = inl (record { version = version; contents = c; holds = without; says = says })
either_table {version} {was} {t} {seq} {c} {header} {records} says r image (inr with_it) =
    inr (record { version = newest; contents = contents_with_checkpoint c header records; holds = with_it; says = r.after })

module _ {version : RecordVersion} {t : TableState} {seq : ℕ} {c : LogContents} {header : Header} {records : List ℕ} (r : Republishes version t seq c header records) (image : List ℕ) where
  pub same_table : Holds c image → HoldsTable t seq image
  same_table holds = record { version = version; contents = c; holds = holds; says = r.before }

  pub same_table_either : HoldsOneOf c (contents_with_checkpoint c header records) image → HoldsTable t seq image
  same_table_either (inl without) = same_table without
  same_table_either (inr with_it) = record { version = newest; contents = contents_with_checkpoint c header records; holds = with_it; says = r.after }
