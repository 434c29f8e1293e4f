use Rattle.std.proofs.Common.{◌≡◌, ◌∙◌, ap, take, length, arith}
use Rattle.std.proofs.Math.Seq.{take-length}
use Rattle.std.specs.String.{string_bytes}
use Rattle.gateway_wire.specs.DeviceList.{device_lines}
use Rattle.gateway_wire.proofs.DeviceLines.{device_lines-take_more}
use Rattle.gateway_wire.proofs.list.list_text.Goals as goal

pub loop-slot-preserved : goal.loop-slot-preserved
loop-slot-preserved c =
    let devices = c.args.devices.now in
    let d = c.index-devices-slot.result in
    let more = device_lines-take_more devices c.loop-slot.slot d c.loop-slot-test.true c.index-devices-slot.is in
    let line = c.in_ok-line.ensures in
    let pushed = c.in_ok-push_str.ensures.bytes in
    let read = c.as_str.ensures.value in
    let before = c.loop-slot.invariant in
    cc

pub returns : goal.returns
returns c =
    let devices = c.args.devices.now in
    let end : c.loop-slot.slot ≡ length devices = omega arith in
    let lines : string_bytes c.loop-slot.text ≡ device_lines 0 devices =
    c.loop-slot.invariant ∙ ap (device_lines 0) (ap (λ n. take n devices) end ∙ take-length devices) in
    let last = c.in_ok-last.ensures in
    let pushed = c.in_ok-push_str-2.ensures.bytes in
    let read = c.as_str-2.ensures.value in
    cc
