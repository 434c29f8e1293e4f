-- What a list asks for.
use Rattle.std.specs.Prelude.{◌≡◌, ◌≢◌, ◌⊎◌, ◌+◌, ◌<◌, ◌++◌, ℕ, ◌∷◌, [], List, length, map, Some}
use Rattle.std.specs.Prelude.{Result, Ok, Err, codes, unwrap_or}
use Rattle.std.specs.List.{Contains, slice_get}
use Rattle.csv.specs.Records.{AllText, field_at}
use Rattle.device_changes.specs.declared.change.Change.{Change}
use Rattle.device_changes.specs.declared.change.Change.TheVariants as change
use Rattle.device_lists.specs.declared.column.Column.{Column}
use Rattle.device_lists.specs.declared.column.Column.TheVariants as c
use Rattle.device_lists.specs.declared.fault.FaultyLine.{FaultyLine}
use Rattle.device_lists.specs.declared.fault.LineFault.{LineFault}
use Rattle.device_lists.specs.declared.fault.LineFault.TheVariants as fault
use Rattle.device_lists.specs.declared.fault.ListFault.{ListFault}
use Rattle.device_lists.specs.declared.fault.ListFault.TheVariants.{Lines, OutOfMemory}
use Rattle.device_lists.specs.declared.line_values.LineValues.{LineValues}
use Rattle.device_lists.specs.declared.reading.ListUse.{ListUse}
use Rattle.device_lists.specs.declared.reading.Reading.{Reading}
use Rattle.device_changes.specs.declared.fault.FaultyRow.{FaultyRow}
use Rattle.device_changes.specs.declared.fault.RowFault.{RowFault}
use Rattle.device_changes.specs.declared.fault.RowFault.TheVariants as fault_in_row
use Rattle.device_lists.specs.declared.reading.ListUse.TheVariants.{Import, Amend}
use Rattle.device_lists.specs.Columns.{IsListHead, IsUnder, column_name}
use Rattle.device_lists.specs.Rows.{AreRows, Numbered}
use Rattle.device_lists.specs.Values.{IsAmendmentOf, IsImportOf, IsValuesFault, text_in}

-- the values of a row under the columns of a head
pub record AreUnder (head : List Column) (values : List (List ℕ)) (f : LineValues) : Type 0 where
  pub dev_eui : IsUnder c.DevEui head values (text_in f.dev_eui)
  pub join_eui : IsUnder c.JoinEui head values (text_in f.join_eui)
  pub app_key : IsUnder c.AppKey head values (text_in f.app_key)
  pub application : IsUnder c.Application head values (text_in f.application)
  pub offset : IsUnder c.Offset head values (text_in f.offset)
  pub delay : IsUnder c.Delay head values (text_in f.delay)
  pub last_dev_nonce : IsUnder c.LastDevNonce head values (text_in f.last_dev_nonce)
  pub last_join_nonce : IsUnder c.LastJoinNonce head values (text_in f.last_join_nonce)
  pub heard : IsUnder c.Heard head values (text_in f.heard)
  pub session : IsUnder c.Session head values (text_in f.session)

-- what the values of a line ask for
abbrev pub ValuesAskFor : ListUse → LineValues → Change → Type 0
ValuesAskFor Import f (change.Import i) = IsImportOf f i
ValuesAskFor Import f (change.Amend a) = ⊥
ValuesAskFor Import f (change.Retire r) = ⊥
ValuesAskFor Amend f (change.Import i) = ⊥
ValuesAskFor Amend f (change.Amend a) = IsAmendmentOf f a
ValuesAskFor Amend f (change.Retire r) = ⊥

-- a row under a head asks for a change
abbrev pub RowAsksFor : ListUse → List Column → List (List ℕ) → Change → Type 0
RowAsksFor usage head values asked =
    (length values ≡ length head) × AllText values
    × (f : LineValues) × AreUnder head values f × ValuesAskFor usage f asked

-- what is wrong with a row under a head
abbrev pub IsRowFault : ListUse → List Column → List (List ℕ) → LineFault → Type 0
IsRowFault usage head values fault.Count = length values ≢ length head
IsRowFault usage head values fault.Text = ¬ (AllText values)
IsRowFault usage head values (fault.Missing column) =
    (f : LineValues) × AreUnder head values f × IsValuesFault usage f (fault.Missing column)
IsRowFault usage head values (fault.Value column) =
    (f : LineValues) × AreUnder head values f × IsValuesFault usage f (fault.Value column)
IsRowFault usage head values (fault.UnknownColumn place) = ⊥
IsRowFault usage head values (fault.ColumnTwice column) = ⊥
IsRowFault usage head values (fault.Row row) = ⊥

-- each row is read in turn: either it asks for a change, which has the number of the row's line,
-- or its line is faulty
abbrev pub AreRead : ListUse → List Column → List Numbered → List ℕ → List Change
    → List FaultyLine → Type 0
AreRead usage head [] lines changes faults = (lines ≡ []) × (changes ≡ []) × (faults ≡ [])
AreRead usage head (row ∷ rows) lines changes faults =
    ((asked : Change) × (more : List ℕ) × (others : List Change)
    × (lines ≡ row.line ∷ more) × (changes ≡ asked ∷ others)
    × RowAsksFor usage head row.values asked × AreRead usage head rows more others faults)
    ⊎ ((wrong : LineFault) × (others : List FaultyLine)
    × (faults ≡ record { line = row.line; fault = wrong } ∷ others)
    × IsRowFault usage head row.values wrong × AreRead usage head rows lines changes others)

-- the rows of a text after its head
abbrev pub HasRows : List ℕ → List Column → List Numbered → Type 0
HasRows text head rows =
    (first : Numbered) × AreRows text (first ∷ rows) × IsListHead first.values head

-- each row of a text asks for a change
abbrev pub IsListOf : ListUse → List ℕ → List ℕ → List Change → Type 0
IsListOf usage text lines changes =
    (head : List Column) × (rows : List Numbered)
    × HasRows text head rows × AreRead usage head rows lines changes []

-- what is wrong with the values of a head: one isn't text, or names no column, or one named before;
-- or each names a column, and none the DevEUI
abbrev pub IsHeadFault : List (List ℕ) → LineFault → Type 0
IsHeadFault values fault.Text = ¬ (AllText values)
IsHeadFault values (fault.UnknownColumn place) = (i : ℕ) × (name : List ℕ)
    × (place ≡ i + 1) × (field_at values i ≡ Some name)
    × ((column : Column) → name ≢ column_name column)
IsHeadFault values (fault.ColumnTwice column) = (i j : ℕ)
    × (i < j) × (field_at values i ≡ Some (column_name column))
    × (field_at values j ≡ Some (column_name column))
IsHeadFault values (fault.Missing column) = (column ≡ c.DevEui)
    × (columns : List Column) × (map column_name columns ≡ values) × ¬ (Contains columns c.DevEui)
IsHeadFault values fault.Count = ⊥
IsHeadFault values (fault.Value column) = ⊥
IsHeadFault values (fault.Row row) = ⊥

-- these lines are faulty, each for this reason: there is no head, or it is wrong, or rows are
abbrev pub AreFaulty : ListUse → List ℕ → List FaultyLine → Type 0
AreFaulty usage text faults =
    (AreRows text [] × (faults ≡ record { line = 1; fault = fault.Missing c.DevEui } ∷ []))
    ⊎ ((first : Numbered) × (rows : List Numbered) × (wrong : LineFault)
    × AreRows text (first ∷ rows)
    × IsHeadFault first.values wrong
    × (faults ≡ record { line = first.line; fault = wrong } ∷ []))
    ⊎ ((head : List Column) × (rows : List Numbered) × (lines : List ℕ) × (changes : List Change)
    × HasRows text head rows × AreRead usage head rows lines changes faults × (faults ≢ []))

-- a text is refused because lines are faulty, or memory ran out
abbrev pub IsRefusedText : ListUse → List ℕ → ListFault → Type 0
IsRefusedText usage text (Lines faults) = AreFaulty usage text faults.items
IsRefusedText usage text OutOfMemory = Unit {0}

-- one line alone is faulty
abbrev pub IsOnly : ℕ → LineFault → ListFault → Type 0
IsOnly line wrong (Lines faults) = faults.items ≡ record { line = line; fault = wrong } ∷ []
IsOnly line wrong OutOfMemory = Unit {0}

-- these lines are faulty, at least one
abbrev pub AreLinesOf : List FaultyLine → ListFault → Type 0
AreLinesOf faults (Lines lines) = (lines.items ≡ faults) × (faults ≢ [])
AreLinesOf faults OutOfMemory = ⊥

-- what the next row asks for was added to a list as far as it was read
abbrev pub IsNoted : Reading → Result (ℕ × Change) FaultyLine → Reading → Type 0
IsNoted old (Ok read) new =
    (new.list.changes.items ≡ old.list.changes.items ++ read.1 ∷ [])
    × (new.list.lines.items ≡ old.list.lines.items ++ read.0 ∷ [])
    × (new.faults.items ≡ old.faults.items)
IsNoted old (Err faulty) new =
    (new.list ≡ old.list) × (new.faults.items ≡ old.faults.items ++ faulty ∷ [])

-- the line of a change that the store's table refuses, or 0 if there is no such change
abbrev pub faulty_line : List ℕ → FaultyRow → FaultyLine
faulty_line lines row =
    record { line = unwrap_or (slice_get lines row.row) 0; fault = fault.Row row.fault }

-- what is wrong with a change, for people
unfoldable pub row_fault_text : RowFault → List ℕ
row_fault_text fault_in_row.Repeated = codes "an earlier line has the same DevEUI"
row_fault_text fault_in_row.UnknownDevEui = codes "the store doesn't have this DevEUI"
row_fault_text fault_in_row.DevEuiTaken = codes "the store has this DevEUI already"
row_fault_text fault_in_row.TableFull = codes "the store has no free slot for it"
row_fault_text fault_in_row.JoinNonceLowered = codes "LastJoinNonce is below the store's"
