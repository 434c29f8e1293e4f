-- The reports to an application about its device: a line of words, separated by one space each.
use Rattle.std.specs.Prelude.{ℕ, List, [], ◌∷◌, codes}
use Rattle.std.specs.Fmt.{decimal, signed_decimal}
use Rattle.lw_types.specs.Hex.{eui_text, field_text}
use Rattle.lw_types.specs.Words.{line_of}
use Rattle.lw_types.specs.declared.identifiers.Eui.{Eui}
use Rattle.lw_types.specs.declared.frame_copy.Reception.{Reception}
use Rattle.devices.specs.declared.mark.SessionName.{SessionName}
use Rattle.devices.specs.declared.effect.Report.{Report}
use Rattle.devices.specs.declared.effect.Report.TheVariants.{Provisioned, Queued, MacQueued, Acked}
use Rattle.devices.specs.declared.effect.Report.TheVariants.{Lost, Mac, Spent}

-- a report: its name, the DevEUI, and its values
abbrev pub report_words : Eui → Report → List (List ℕ)
report_words dev_eui (Provisioned slot) = codes "provisioned" ∷ eui_text dev_eui ∷ decimal slot ∷ []
report_words dev_eui (Queued tag) = codes "queued" ∷ eui_text dev_eui ∷ decimal tag.0 ∷ []
report_words dev_eui (MacQueued commands) =
    codes "macqueued" ∷ eui_text dev_eui ∷ field_text commands ∷ []
report_words dev_eui (Acked tag) = codes "acked" ∷ eui_text dev_eui ∷ decimal tag.0 ∷ []
report_words dev_eui (Lost tag) = codes "lost" ∷ eui_text dev_eui ∷ decimal tag.0 ∷ []
report_words dev_eui (Mac join_nonce commands) =
    codes "mac" ∷ eui_text dev_eui ∷ decimal join_nonce ∷ field_text commands ∷ []
report_words dev_eui (Spent join_nonce) = codes "spent" ∷ eui_text dev_eui ∷ decimal join_nonce ∷ []

abbrev pub report_line : Eui → Report → List ℕ
report_line dev_eui report = line_of (report_words dev_eui report)

-- the number of gateways that heard an uplink, and the best reception: the gateway, Hz, data rate,
-- SNR in quarter dB, RSSI in dBm
abbrev pub heard_words : ℕ → Reception → List (List ℕ)
heard_words copies best =
    decimal copies ∷ eui_text best.gateway ∷ decimal best.frequency ∷ decimal best.data_rate
    ∷ signed_decimal best.snr
    ∷ signed_decimal best.rssi ∷ []

-- a payload with its session and counter, and how it was heard
abbrev pub up_words : SessionName → ℕ → ℕ → List ℕ → ℕ → Reception → List (List ℕ)
up_words session counter port payload copies best =
    codes "up" ∷ eui_text session.dev_eui ∷ decimal session.join_nonce ∷ decimal counter
    ∷ decimal port ∷ field_text payload
    ∷ heard_words copies best

abbrev pub up_line : SessionName → ℕ → ℕ → List ℕ → ℕ → Reception → List ℕ
up_line session counter port payload copies best =
    line_of (up_words session counter port payload copies best)
