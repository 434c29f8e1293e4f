-- The requests of applications: a line of words, separated by one space each.
use Rattle.std.specs.Prelude.{◌≡◌, ℕ, ◌<◌, ◌≤◌, ◌^◌, Bool, true, false, List, [], ◌∷◌, length}
use Rattle.std.specs.Prelude.{codes}
use Rattle.std.specs.Fmt.{decimal}
use Rattle.lw_types.specs.Hex.{IsBytes, eui_text, field_text, key_text}
use Rattle.lw_types.specs.Words.{line_of}
use Rattle.devices.specs.declared.command.Command.{Command}
use Rattle.devices.specs.declared.command.Command.TheVariants as command
use Rattle.gateway_wire.specs.declared.request.Request.{Request}
use Rattle.gateway_wire.specs.declared.request.Request.TheVariants.{Provision, Queue, Mac}

-- `c` if the device has to acknowledge the item
unfoldable pub confirmed_text : Bool → List ℕ
confirmed_text true = codes "c"
confirmed_text false = codes "u"

-- the name of the request and its fields
abbrev pub request_words : Request → List (List ℕ)
request_words (Provision dev_eui join_eui app_key rx1_offset rx_delay) =
    codes "provision" ∷ eui_text dev_eui ∷ eui_text join_eui ∷ key_text app_key ∷ decimal rx1_offset
    ∷ decimal rx_delay ∷ []
request_words (Queue dev_eui tag port confirmed payload) =
    codes "queue" ∷ eui_text dev_eui ∷ decimal tag.0 ∷ decimal port ∷ confirmed_text confirmed
    ∷ field_text payload ∷ []
request_words (Mac dev_eui commands) = codes "mac" ∷ eui_text dev_eui ∷ field_text commands ∷ []

abbrev pub request_line : Request → List ℕ
request_line r = line_of (request_words r)

-- the fields are in range
abbrev pub IsRequestInRange : Request → Type 0
IsRequestInRange (Provision dev_eui join_eui app_key rx1_offset rx_delay) =
    (dev_eui.0 < 2 ^ 64) × (join_eui.0 < 2 ^ 64) × (IsBytes app_key.0 × (length app_key.0 ≡ 16))
    × (rx1_offset ≤ 5) × ((1 ≤ rx_delay) × (rx_delay ≤ 15))
IsRequestInRange (Queue dev_eui tag port confirmed payload) =
    (dev_eui.0 < 2 ^ 64) × (tag.0 < 2 ^ 32) × (port < 256) × IsBytes payload
IsRequestInRange (Mac dev_eui commands) = (dev_eui.0 < 2 ^ 64) × IsBytes commands

-- the request of these words
abbrev pub IsRequestOf : List (List ℕ) → Request → Type 0
IsRequestOf words r = IsRequestInRange r × (words ≡ request_words r)

-- the words of some request
abbrev pub AreRequestWords : List (List ℕ) → Type 0
AreRequestWords words = (r : Request) × IsRequestInRange r × (words ≡ request_words r)

-- the line of some request
abbrev pub IsRequestLine : List ℕ → Type 0
IsRequestLine line = (r : Request) × IsRequestInRange r × (line ≡ request_line r)

-- the command of a request, for the application that asks
abbrev pub command_of : ℕ → Request → Command
command_of application (Provision dev_eui join_eui app_key rx1_offset rx_delay) =
    command.Provision (record {
      application = application;
      dev_eui = dev_eui;
      join_eui = join_eui;
      app_key = app_key;
      rx1_offset = rx1_offset;
      rx_delay = rx_delay;
    })
command_of application (Queue dev_eui tag port confirmed payload) =
    command.Queue (record {
      application = application;
      dev_eui = dev_eui;
      tag = tag;
      port = port;
      confirmed = confirmed;
      payload = payload;
    })
command_of application (Mac dev_eui commands) =
    command.QueueMac (record { application = application; dev_eui = dev_eui; commands = commands })
