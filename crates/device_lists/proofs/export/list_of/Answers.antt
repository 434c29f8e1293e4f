use Rattle.std.proofs.Common.{append_assoc, take}
use Rattle.device_lists.specs.Export.{csv_line, csv_lines, head_line}
use Rattle.device_lists.proofs.OneMore.{csv_lines-take_more}
use Rattle.device_lists.proofs.export.list_of.Goals as goal

pub loop-device-preserved : goal.loop-device-preserved
loop-device-preserved c =
    let devices = c.args.devices.now in
    let keys = c.args.keys in
    let d = c.device-item.result in
    let i = c.loop-device.device-index in
    let more = csv_lines-take_more keys devices i d c.loop-device-test.true c.device-item.is in
    let line = c.in_ok-line.ensures in
    let pushed = c.in_ok-push_str.ensures.bytes in
    let read = c.as_str.ensures.value in
    let before = c.loop-device.invariant in
    let joined = append_assoc head_line (csv_lines keys (take i devices)) (csv_line keys d) in
    cc
