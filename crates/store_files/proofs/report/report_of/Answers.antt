use Rattle.std.proofs.Common.{append_assoc, take}
use Rattle.store_files.specs.Report.{above_line, above_lines, head_text}
use Rattle.store_files.proofs.OneMore.{above_lines-take_more}
use Rattle.store_files.proofs.report.report_of.Goals as goal

pub loop-device-preserved : goal.loop-device-preserved
loop-device-preserved c =
    let devices = c.args.devices.now in
    let d = c.device-item.result in
    let i = c.loop-device.device-index in
    let more = above_lines-take_more devices i d c.loop-device-test.true c.device-item.is in
    let line = c.in_ok-line.ensures in
    let pushed = c.in_ok-push_str.ensures.bytes in
    let read = c.as_str.ensures.value in
    let before = c.loop-device.invariant in
    let joined = append_assoc (head_text c.args.recorded devices) (above_lines (take i devices)) (above_line d) in
    cc
