-- The list of a store's devices.
use Rattle.std.specs.Prelude.{ℕ, Bool, ◌||◌, List, [], ◌∷◌, ◌++◌, Option, Some, None, codes}
use Rattle.std.specs.Prelude.{is_some, unwrap_or}
use Rattle.std.specs.Fmt.{decimal}
use Rattle.std.specs.List.{join_with_byte}
use Rattle.devices.specs.Activation.{Grants}
use Rattle.devices.specs.declared.device.Device.{Device}
use Rattle.lw_types.specs.Hex.{eui_text, key_text}
use Rattle.lw_types.specs.declared.key.Key.{Key}
use Rattle.device_lists.specs.Values.{yes_or_no}
use Rattle.device_lists.specs.declared.export.AppKeys.{AppKeys}
use Rattle.device_lists.specs.declared.export.AppKeys.TheVariants.{Shown, Hidden}

-- the AppKey, or nothing
unfoldable pub key_field : AppKeys → Key → List ℕ
key_field Shown key = key_text key
key_field Hidden key = []

-- the last DevNonce, or nothing
unfoldable pub nonce_field : Option ℕ → List ℕ
nonce_field None = []
nonce_field (Some nonce) = decimal nonce

-- a current session, or one that was granted and not yet used
abbrev pub has_session : Grants → Bool
has_session g = is_some g.current || is_some g.pending

-- values between commas
abbrev pub values_text : List (List ℕ) → List ℕ
values_text values = join_with_byte 44 values

abbrev pub head_line : List ℕ
head_line =
    codes
    "DevEUI,JoinEUI,AppKey,Application,Offset,Delay,LastDevNonce,LastJoinNonce,Heard,Session\n"

-- who the device is, its settings, and how far it has come
abbrev pub identity_values : AppKeys → Device → List (List ℕ)
identity_values keys d =
    eui_text d.dev_eui ∷ eui_text d.join_eui ∷ key_field keys d.app_key ∷ []

abbrev pub settings_values : Device → List (List ℕ)
settings_values d = decimal d.application ∷ decimal d.rx1_offset ∷ decimal d.rx_delay ∷ []

abbrev pub progress_values : Device → List (List ℕ)
progress_values d =
    nonce_field d.last_dev_nonce ∷ decimal (unwrap_or d.activation.granted 0)
    ∷ decimal d.heard ∷ yes_or_no (has_session d.activation) ∷ []

abbrev pub csv_line : AppKeys → Device → List ℕ
csv_line keys d =
    values_text (identity_values keys d) ++ 44 ∷ values_text (settings_values d)
    ++ 44 ∷ values_text (progress_values d) ++ 10 ∷ []

abbrev pub csv_lines : AppKeys → List Device → List ℕ
csv_lines keys [] = []
csv_lines keys (d ∷ devices) = csv_line keys d ++ csv_lines keys devices

-- a head, and a line for each device
abbrev pub csv_text : AppKeys → List Device → List ℕ
csv_text keys devices = head_line ++ csv_lines keys devices
