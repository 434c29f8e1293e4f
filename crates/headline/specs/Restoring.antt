-- Where a network continues after its store was restored.
use Rattle.std.specs.Prelude.{ℕ, List}
use Rattle.devices.specs.declared.mark.Mark.{Mark}
use Rattle.devices.specs.declared.mark.SessionName.{SessionName}
use Rattle.sessions.specs.Restored.{raised_by_all, restored_table}
use Rattle.sessions.specs.Table.{TableState}
use Rattle.world.specs.Course.{Origin, adopted_store}

-- a world adopts a copy's table and number; in that table these sessions count as granted, and then
-- N more of each device; these marks were used up before
abbrev pub restored_store : ℕ → List SessionName → TableState → ℕ → List Mark → Origin
restored_store since recorded older seq marks =
    adopted_store (restored_table since (raised_by_all recorded older)) seq marks
