-- The lines of one more device.
use Rattle.std.proofs.Common.{◌≡◌, ◌≤◌, ◌∙◌, ap, sym, append_assoc, append-nil, arith, length, take, get_or, ℕ, ◌+◌, ◌<◌, suc, List, [], ◌∷◌, ◌++◌}
use Rattle.std.proofs.lemmas.List.{take_more, length-take-le}
use Rattle.devices.specs.declared.device.Device.{Device}
use Rattle.gateway_wire.specs.DeviceList.{device_line, device_lines}

device_lines-push : (slot : ℕ) (devices : List Device) (d : Device) → device_lines slot (devices ++ d ∷ []) ≡ device_lines slot devices ++ device_line (slot + length devices) d
device_lines-push slot [] d =
    let e : slot + 0 ≡ slot = omega arith in
    append-nil (device_line slot d) ∙ ap (λ n. device_line n d) (sym e)
device_lines-push slot (first ∷ devices) d =
    let e : (slot + 1) + length devices ≡ slot + suc (length devices) = omega arith in
    ap (λ (t : List ℕ). device_line slot first ++ t) (device_lines-push (slot + 1) devices d ∙ ap (λ n. device_lines (slot + 1) devices ++ device_line n d) e)
    ∙ sym (append_assoc (device_line slot first) (device_lines (slot + 1) devices) (device_line (slot + suc (length devices)) d))

pub device_lines-take_more : (devices : List Device) (i : ℕ) (d : Device) → i < length devices → d ≡ get_or devices i d
    → device_lines 0 (take (i + 1) devices) ≡ device_lines 0 (take i devices) ++ device_line i d
device_lines-take_more devices i d lt is =
    let within : i ≤ length devices = omega arith in
    let at : 0 + length (take i devices) ≡ i = omega (arith, length-take-le i devices within) in
    ap (device_lines 0) (take_more devices i d lt ∙ ap (λ (x : Device). take i devices ++ x ∷ []) (sym is))
    ∙ (device_lines-push 0 (take i devices) d ∙ ap (λ n. device_lines 0 (take i devices) ++ device_line n d) at)
