-- What rows ask for, one row after the other.
use Rattle.std.proofs.Common.{◌≡◌, ◌∙◌, inl, inr, ℕ, List, [], ◌∷◌, ◌++◌, Result, Ok, Err, ap, sym, refl, subst}
use Rattle.std.specs.Prelude.{MatchResult}
use Rattle.device_changes.specs.declared.change.Change.{Change}
use Rattle.device_lists.specs.Lists.{AreFaulty, AreLinesOf, AreRead, IsListOf, IsOnly, IsRefusedText, IsRowFault, IsNoted, RowAsksFor}
use Rattle.device_lists.specs.Columns.{IsListHead}
use Rattle.device_lists.specs.Rows.{AreRows, Numbered}
use Rattle.device_lists.specs.declared.column.Column.{Column}
use Rattle.device_lists.specs.declared.fault.FaultyLine.{FaultyLine}
use Rattle.device_lists.specs.declared.fault.LineFault.{LineFault}
use Rattle.device_lists.specs.declared.reading.ListUse.{ListUse}
use Rattle.device_lists.specs.declared.fault.ListFault.{ListFault}
use Rattle.device_lists.specs.declared.fault.ListFault.TheVariants.{Lines, OutOfMemory}
use Rattle.device_lists.specs.declared.reading.DeviceList.{DeviceList}
use Rattle.device_lists.specs.declared.reading.Reading.{Reading}

module _ (usage : ListUse) (head : List Column) where
  asks_last : (rows : List Numbered) (row : Numbered) (lines : List ℕ) (changes : List Change) (faults : List FaultyLine) (asked : Change)
      → AreRead usage head rows lines changes faults → RowAsksFor usage head row.values asked
      → AreRead usage head (rows ++ row ∷ []) (lines ++ row.line ∷ []) (changes ++ asked ∷ []) faults
  asks_last [] row lines changes faults asked read asks = inl (
    asked,
    [],
    [],
    ap (λ l. l ++ row.line ∷ []) read.0,
    ap (λ l. l ++ asked ∷ []) read.1,
    asks,
    (refl, refl, read.2),
  )
  asks_last (first ∷ rows) row lines changes faults asked (inl read) asks = inl (
    read.0,
    read.1 ++ row.line ∷ [],
    read.2 ++ asked ∷ [],
    ap (λ l. l ++ row.line ∷ []) read.3,
    ap (λ l. l ++ asked ∷ []) read.4,
    read.5,
    asks_last rows row read.1 read.2 faults asked read.6 asks,
  )
  asks_last (first ∷ rows) row lines changes faults asked (inr read) asks = inr (
    read.0,
    read.1,
    read.2,
    read.3,
    asks_last rows row lines changes read.1 asked read.4 asks,
  )

  faulty_last : (rows : List Numbered) (row : Numbered) (lines : List ℕ) (changes : List Change) (faults : List FaultyLine) (wrong : LineFault)
      → AreRead usage head rows lines changes faults → IsRowFault usage head row.values wrong
      → AreRead usage head (rows ++ row ∷ []) lines changes (faults ++ record { line = row.line; fault = wrong } ∷ [])
  faulty_last [] row lines changes faults wrong read is = inr (
    wrong,
    [],
    ap (λ l. l ++ record { line = row.line; fault = wrong } ∷ []) read.2,
    is,
    (read.0, read.1, refl),
  )
  faulty_last (first ∷ rows) row lines changes faults wrong (inl read) is = inl (
    read.0,
    read.1,
    read.2,
    read.3,
    read.4,
    read.5,
    faulty_last rows row read.1 read.2 faults wrong read.6 is,
  )
  faulty_last (first ∷ rows) row lines changes faults wrong (inr read) is = inr (
    read.0,
    read.1 ++ record { line = row.line; fault = wrong } ∷ [],
    ap (λ l. l ++ record { line = row.line; fault = wrong } ∷ []) read.2,
    read.3,
    faulty_last rows row lines changes read.1 wrong read.4 is,
  )

  -- what is true of one row's reading
  abbrev pub IsReadOf : Numbered → Result (ℕ × Change) FaultyLine → Type 0
  IsReadOf row r = MatchResult r (λ read. (read.0 ≡ row.line) × RowAsksFor usage head row.values read.1)
      (λ faulty. (faulty.line ≡ row.line) × IsRowFault usage head row.values faulty.fault)

  pub read_last : (rows : List Numbered) (row : Numbered) (old : Reading) (read : Result (ℕ × Change) FaultyLine) (new : Reading)
      → IsReadOf row read → IsNoted old read new
      → AreRead usage head rows old.list.lines.items old.list.changes.items old.faults.items
      → AreRead usage head (rows ++ row ∷ []) new.list.lines.items new.list.changes.items new.faults.items
  read_last rows row old (Ok read) new is taken were =
      subst (λ l. AreRead usage head (rows ++ row ∷ []) l new.list.changes.items new.faults.items) (sym taken.1)
      (subst (λ c. AreRead usage head (rows ++ row ∷ []) (old.list.lines.items ++ read.0 ∷ []) c new.faults.items) (sym taken.0)
      (subst (λ f. AreRead usage head (rows ++ row ∷ []) (old.list.lines.items ++ read.0 ∷ []) (old.list.changes.items ++ read.1 ∷ []) f) (sym taken.2)
      (subst (λ n. AreRead usage head (rows ++ row ∷ []) (old.list.lines.items ++ n ∷ []) (old.list.changes.items ++ read.1 ∷ []) old.faults.items) (sym is.0)
      (asks_last rows row old.list.lines.items old.list.changes.items old.faults.items read.1 were is.1))))
  read_last rows row old (Err faulty) new is taken were =
      subst (λ l. AreRead usage head (rows ++ row ∷ []) l.lines.items l.changes.items new.faults.items) (sym taken.0)
      (subst (λ f. AreRead usage head (rows ++ row ∷ []) old.list.lines.items old.list.changes.items f) (sym taken.1)
      (subst (λ n. AreRead usage head (rows ++ row ∷ []) old.list.lines.items old.list.changes.items (old.faults.items ++ record { line = n; fault = faulty.fault } ∷ [])) (sym is.0)
      (faulty_last rows row old.list.lines.items old.list.changes.items old.faults.items faulty.fault were is.1)))

-- one line alone is the reason of a refusal
pub only_is : (usage : ListUse) (text : List ℕ) (line : ℕ) (wrong : LineFault) (r : ListFault) → IsOnly line wrong r
    → AreFaulty usage text (record { line = line; fault = wrong } ∷ []) → IsRefusedText usage text r
only_is usage text line wrong (Lines faults) only are = subst (AreFaulty usage text) (sym only) are
only_is usage text line wrong OutOfMemory only are = tt

-- all rows were read
pub all_read : (usage : ListUse) (text : List ℕ) (head : List Column) (first : Numbered) (rows : List Numbered) (reading : Reading)
    (r : Result DeviceList ListFault) → AreRows text (first ∷ rows) → IsListHead first.values head
    → AreRead usage head rows reading.list.lines.items reading.list.changes.items reading.faults.items
    → MatchResult r (λ list. (list ≡ reading.list) × (reading.faults.items ≡ [])) (AreLinesOf reading.faults.items)
    → MatchResult r (λ list. IsListOf usage text list.lines.items list.changes.items) (IsRefusedText usage text)
all_read usage text head first rows reading (Ok list) are is_head read is = (
  head,
  rows,
  (first, are, is_head),
  subst (λ l. AreRead usage head rows l.lines.items l.changes.items []) (sym is.0)
      (subst (AreRead usage head rows reading.list.lines.items reading.list.changes.items) is.1 read),
)
all_read usage text head first rows reading (Err (Lines faults)) are is_head read is = inr (inr (
  head,
  rows,
  reading.list.lines.items,
  reading.list.changes.items,
  (first, are, is_head),
  subst (AreRead usage head rows reading.list.lines.items reading.list.changes.items) (sym is.0) read,
  λ none. is.1 (sym is.0 ∙ none),
))
all_read usage text head first rows reading (Err OutOfMemory) are is_head read is = absurd is
