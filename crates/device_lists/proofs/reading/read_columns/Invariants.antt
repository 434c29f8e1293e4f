use Rattle.std.proofs.Common.{◌≡◌, ◌-◌, ◌++◌, List, ℕ, map, length}
use Rattle.csv.specs.Records.{field_count, fields_of}
use Rattle.sessions.specs.Marks.{AreDistinct}
use Rattle.device_lists.specs.Columns.{column_name}
use Rattle.device_lists.proofs.reading.read_columns.Given as goal

-- the columns that were read are the first ones that the names name
abbrev pub invariant-loop-name : goal.invariant-loop-name
invariant-loop-name l =
    ((rest : List (List ℕ)) × (fields_of l.names ≡ map column_name l.head.items ++ rest)) × AreDistinct l.head.items

abbrev pub decreases-loop-name : goal.decreases-loop-name
decreases-loop-name l = field_count l.names - length l.head.items
