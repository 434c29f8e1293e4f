-- The lines of one device more.
use Rattle.std.proofs.Common.{◌≡◌, ◌∙◌, ap, sym, append_assoc, append-nil, take, get_or, length, ℕ, ◌+◌, ◌<◌, List, [], ◌∷◌, ◌++◌}
use Rattle.std.proofs.lemmas.List.{take_more}
use Rattle.devices.specs.declared.device.Device.{Device}
use Rattle.device_lists.specs.Export.{csv_line, csv_lines}
use Rattle.device_lists.specs.declared.export.AppKeys.{AppKeys}

csv_lines-push : (keys : AppKeys) (devices : List Device) (d : Device) → csv_lines keys (devices ++ d ∷ []) ≡ csv_lines keys devices ++ csv_line keys d
csv_lines-push keys [] d = append-nil (csv_line keys d)
csv_lines-push keys (first ∷ devices) d =
    ap (λ rest. csv_line keys first ++ rest) (csv_lines-push keys devices d)
    ∙ sym (append_assoc (csv_line keys first) (csv_lines keys devices) (csv_line keys d))

pub csv_lines-take_more : (keys : AppKeys) (devices : List Device) (i : ℕ) (d : Device) → i < length devices
    → d ≡ get_or devices i d
    → csv_lines keys (take (i + 1) devices) ≡ csv_lines keys (take i devices) ++ csv_line keys d
csv_lines-take_more keys devices i d lt is =
    ap (csv_lines keys) (take_more devices i d lt
    ∙ ap (λ (x : Device). take i devices ++ x ∷ []) (sym is))
    ∙ csv_lines-push keys (take i devices) d
