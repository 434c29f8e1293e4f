-- The rows of a list's text.
use Rattle.std.specs.Prelude.{◌≡◌, ◌==◌, ◌<◌, ◌+◌, ◌⊎◌, ℕ, Bool, false, List, [], ◌∷◌, ◌++◌}
use Rattle.std.specs.Prelude.{length, All, Option, Some, None, option_map, if◌then◌else◌}
use Rattle.csv.specs.Machine.{next_record}
use Rattle.csv.specs.Reading.{default_config, strip_bom}
use Rattle.csv.specs.Records.{fields_of}
use Rattle.csv.specs.declared.parser.State.TheVariants.{StartRecord}
use Rattle.device_lists.specs.declared.rows.NumberedRow.{NumberedRow}
use Rattle.device_lists.specs.declared.rows.Rows.{Rows}

-- it contains no line feed
abbrev pub HasNoLineFeed : List ℕ → Type 0
HasNoLineFeed line = All (λ byte. (byte == 10) ≡ false) line

-- a line that ends at a line feed, or at the end of the text
abbrev pub SplitsAfterLine : List ℕ → List ℕ → List ℕ → Type 0
SplitsAfterLine text line rest = (text ≡ line ++ 10 ∷ rest) ⊎ ((text ≡ line) × (rest ≡ []))

-- the lines of a text; a line feed at its end begins no further one
abbrev pub AreLines : List ℕ → List (List ℕ) → Type 0
AreLines text [] = text ≡ []
AreLines text (line ∷ lines) = (rest : List ℕ)
    × (0 < length text) × HasNoLineFeed line × SplitsAfterLine text line rest × AreLines rest lines

-- it begins with the sign of a comment
abbrev pub is_comment : List ℕ → Bool
is_comment [] = false
is_comment (byte ∷ line) = byte == 35

-- the values of a line, as CSV has them; none if the line is a comment, or has nothing
abbrev pub values_in : List ℕ → Option (List (List ℕ))
values_in line =
    if is_comment line then None
    else option_map (λ record_read. record_read.0)
    (next_record default_config StartRecord [] [] (strip_bom line))

-- a row as a reader sees it: the number of its line, counted from 1, and its values
pub record Numbered : Type 0 where
  pub line : ℕ
  pub values : List (List ℕ)

-- a line without values is no row
abbrev pub and_row : ℕ → Option (List (List ℕ)) → List Numbered → List Numbered
and_row line None rows = rows
and_row line (Some values) rows = record { line = line; values = values } ∷ rows

-- the rows of lines of which n come before
abbrev pub rows_after : ℕ → List (List ℕ) → List Numbered
rows_after n [] = []
rows_after n (line ∷ lines) = and_row (n + 1) (values_in line) (rows_after (n + 1) lines)

-- the rows of a text that n lines come before
abbrev pub AreRowsAfter : ℕ → List ℕ → List Numbered → Type 0
AreRowsAfter n text rows =
    (lines : List (List ℕ)) × AreLines text lines × (rows ≡ rows_after n lines)

-- the rows of a text
abbrev pub AreRows : List ℕ → List Numbered → Type 0
AreRows text rows = AreRowsAfter 0 text rows

-- a row is the next one, or there is none
abbrev pub TakesRow : Rows → Option NumberedRow → Rows → Type 0
TakesRow old None new = AreRowsAfter old.line old.rest.now []
TakesRow old (Some row) new =
    (more : List Numbered) → AreRowsAfter new.line new.rest.now more
    → AreRowsAfter old.line old.rest.now
    (record { line = row.line; values = fields_of row.values } ∷ more)
