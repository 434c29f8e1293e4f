-- The lines of a record of restores.
use Rattle.std.specs.Prelude.{ℕ, List, ◌∷◌, ◌++◌}
use Rattle.std.specs.Fmt.{decimal}
use Rattle.lw_types.specs.Hex.{eui_text}
use Rattle.devices.specs.declared.mark.SessionName.{SessionName}

-- a DevEUI, a comma and a JoinNonce
abbrev pub session_text : SessionName → List ℕ
session_text s = eui_text s.dev_eui ++ 44 ∷ decimal s.join_nonce
