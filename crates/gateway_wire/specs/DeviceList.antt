-- The list of a network's devices: a line of words for each device, in order of slot, and a last
-- line.
use Rattle.std.specs.Prelude.{ℕ, ◌+◌, List, [], ◌∷◌, ◌++◌, length, codes, Option, Some, None}
use Rattle.std.specs.Prelude.{unwrap_or}
use Rattle.std.specs.Fmt.{decimal}
use Rattle.lw_types.specs.Hex.{eui_text}
use Rattle.lw_types.specs.Words.{line_of}
use Rattle.devices.specs.declared.activation.CurrentSession.{CurrentSession}
use Rattle.devices.specs.declared.device.Device.{Device}

-- a line and its newline
abbrev pub with_newline : List (List ℕ) → List ℕ
with_newline words = line_of words ++ 10 ∷ []

-- JoinNonce, last up counter and next down counter of the current session
abbrev pub session_words : Option CurrentSession → List (List ℕ) → List (List ℕ)
session_words None rest = codes "-" ∷ codes "-" ∷ codes "-" ∷ rest
session_words (Some current) rest =
    decimal current.session.join_nonce ∷ decimal current.last_up ∷ decimal current.next_down ∷ rest

-- the current session, the number of waiting items, and the number of uplinks counted
abbrev pub traffic_words : Device → List (List ℕ)
traffic_words d =
    session_words d.activation.current (decimal (length d.items) ∷ decimal d.heard ∷ [])

-- slot, DevEUI, last JoinNonce granted (0 for none), and the traffic
abbrev pub device_line : ℕ → Device → List ℕ
device_line slot d =
    with_newline (decimal slot ∷ eui_text d.dev_eui ∷ decimal (unwrap_or d.activation.granted 0)
    ∷ traffic_words d)

-- the lines of the devices from this slot on
abbrev pub device_lines : ℕ → List Device → List ℕ
device_lines slot [] = []
device_lines slot (d ∷ devices) = device_line slot d ++ device_lines (slot + 1) devices

-- the number of devices, and the number of the last decision
abbrev pub last_line : ℕ → ℕ → List ℕ
last_line count seq =
    with_newline (codes "devices" ∷ decimal count ∷ codes "seq" ∷ decimal seq ∷ [])

abbrev pub list_text : List Device → ℕ → List ℕ
list_text devices seq = device_lines 0 devices ++ last_line (length devices) seq
