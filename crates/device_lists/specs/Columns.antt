-- The columns of a list, and the values of a row under them.
use Rattle.std.specs.Prelude.{◌≡◌, ◌≢◌, ◌<◌, ℕ, List, Option, Some, None, codes, map, length}
use Rattle.std.specs.List.{All, Contains, HoldsAt}
use Rattle.csv.specs.Records.{field_at}
use Rattle.sessions.specs.Marks.{AreDistinct}
use Rattle.device_lists.specs.declared.column.Column.{Column}
use Rattle.device_lists.specs.declared.column.Column.TheVariants.{DevEui, JoinEui, AppKey}
use Rattle.device_lists.specs.declared.column.Column.TheVariants.{Application, Offset, Delay}
use Rattle.device_lists.specs.declared.column.Column.TheVariants.{LastDevNonce, LastJoinNonce}
use Rattle.device_lists.specs.declared.column.Column.TheVariants.{Heard, Session, Name}

unfoldable pub column_name : Column → List ℕ
column_name DevEui = codes "DevEUI"
column_name JoinEui = codes "JoinEUI"
column_name AppKey = codes "AppKey"
column_name Application = codes "Application"
column_name Offset = codes "Offset"
column_name Delay = codes "Delay"
column_name LastDevNonce = codes "LastDevNonce"
column_name LastJoinNonce = codes "LastJoinNonce"
column_name Heard = codes "Heard"
column_name Session = codes "Session"
column_name Name = codes "Name"

-- what its values look like
unfoldable pub column_form : Column → List ℕ
column_form DevEui = codes "16 upper-case hex digits"
column_form JoinEui = codes "16 upper-case hex digits"
column_form AppKey = codes "32 upper-case hex digits"
column_form Application = codes "a number from 0 to 15"
column_form Offset = codes "a number from 0 to 5"
column_form Delay = codes "a number from 1 to 15"
column_form LastDevNonce = codes "a number from 0 to 65535"
column_form LastJoinNonce = codes "a number from 0 to 16777215"
column_form Heard = codes "a number below 2^63"
column_form Session = codes "yes or no"
column_form Name = codes "a text"

-- these values name these columns in turn, each once, with a DevEUI
pub record IsListHead (values : List (List ℕ)) (columns : List Column) : Type 0 where
  pub named : map column_name columns ≡ values
  pub once : AreDistinct columns
  pub whose : Contains columns DevEui

-- the value of a row under a column; none if the head hasn't the column
abbrev pub IsUnder : Column → List Column → List (List ℕ) → Option (List ℕ) → Type 0
IsUnder column head values None = All (λ c. c ≢ column) head
IsUnder column head values (Some text) = (i : ℕ) × (i < length head)
    × HoldsAt (λ c. c ≡ column) head i × (field_at values i ≡ Some text)
