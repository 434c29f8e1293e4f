-- How many joins are left with one device more, and the lines of one device more.
use Rattle.std.proofs.Common.{◌≡◌, ◌∙◌, ap, sym, append_assoc, append-nil, arith, min, take, get_or, length, ℕ, ◌+◌, ◌-◌, ◌^◌}
use Rattle.std.proofs.Common.{◌<◌, List, [], ◌∷◌, ◌++◌}
use Rattle.std.proofs.lemmas.List.{take_more}
use Rattle.devices.specs.declared.device.Device.{Device}
use Rattle.store_files.specs.Report.{above_line, above_lines, fewest_left, grants_left}

swapped : (a b : ℕ) → min a b ≡ min b a
swapped a b = omega arith

regrouped : (a b c : ℕ) → min a (min b c) ≡ min (min a b) c
regrouped a b c = omega arith

fewest_left-push : (devices : List Device) (d : Device)
    → fewest_left (devices ++ d ∷ []) ≡ min (fewest_left devices) (grants_left d)
fewest_left-push [] d = swapped (grants_left d) (2 ^ 24 - 1)
fewest_left-push (first ∷ devices) d =
    ap (min (grants_left first)) (fewest_left-push devices d)
    ∙ regrouped (grants_left first) (fewest_left devices) (grants_left d)

pub fewest_left-take_more : (devices : List Device) (i : ℕ) (d : Device) → i < length devices
    → d ≡ get_or devices i d
    → fewest_left (take (i + 1) devices) ≡ min (fewest_left (take i devices)) (grants_left d)
fewest_left-take_more devices i d lt is =
    ap fewest_left (take_more devices i d lt
    ∙ ap (λ (x : Device). take i devices ++ x ∷ []) (sym is))
    ∙ fewest_left-push (take i devices) d

above_lines-push : (devices : List Device) (d : Device) → above_lines (devices ++ d ∷ []) ≡ above_lines devices ++ above_line d
above_lines-push [] d = append-nil (above_line d)
above_lines-push (first ∷ devices) d =
    ap (λ (t : List ℕ). above_line first ++ t) (above_lines-push devices d)
    ∙ sym (append_assoc (above_line first) (above_lines devices) (above_line d))

pub above_lines-take_more : (devices : List Device) (i : ℕ) (d : Device) → i < length devices → d ≡ get_or devices i d
    → above_lines (take (i + 1) devices) ≡ above_lines (take i devices) ++ above_line d
above_lines-take_more devices i d lt is =
    ap above_lines (take_more devices i d lt ∙ ap (λ (x : Device). take i devices ++ x ∷ []) (sym is))
    ∙ above_lines-push (take i devices) d
