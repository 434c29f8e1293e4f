-- Which bytes an application may queue as MAC commands (TS001-1.0.4 §5).
use Rattle.std.specs.Prelude.{ℕ, Bool, false, List, [], ◌∷◌}
use Rattle.mac_commands.specs.Reading.{is_queue}

-- whether bytes are one or more whole LinkADRReq, DutyCycleReq and DevStatusReq, one after another
abbrev pub may_queue : List ℕ → Bool
may_queue [] = false
may_queue (number ∷ bytes) = is_queue (number ∷ bytes)
