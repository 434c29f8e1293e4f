-- The line of an uplink, by the fields of the effect that forwards it.
use Rattle.std.specs.Prelude.{ℕ, List, [], ◌∷◌, codes}
use Rattle.std.specs.Fmt.{decimal}
use Rattle.lw_types.specs.Hex.{eui_text}
use Rattle.gateway_wire.specs.AppLine.{up_line}
use Rattle.gateway_wire.specs.declared.uplink.UpFields.{UpFields}

abbrev pub line_of_up : UpFields → List ℕ
line_of_up up = up_line up.session.now up.counter up.port up.payload.now up.copies up.best.now

-- the words before the payload
abbrev pub head_of_up : UpFields → List (List ℕ)
head_of_up up =
    codes "up" ∷ eui_text up.session.now.dev_eui ∷ decimal up.session.now.join_nonce
    ∷ decimal up.counter
    ∷ decimal up.port ∷ []
