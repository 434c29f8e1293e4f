use Rattle.std.proofs.Common.{◌≡◌, ◌∙◌, ap, arith, take, length}
use Rattle.std.proofs.Math.Seq.{take-length}
use Rattle.store_files.proofs.OneMore.{fewest_left-take_more}
use Rattle.store_files.specs.Report.{fewest_left}
use Rattle.store_files.proofs.report.fewest_left.Goals as goal

pub loop-device-preserved : goal.loop-device-preserved
loop-device-preserved c =
    let more = fewest_left-take_more c.args.devices.now c.loop-device.device-index
    c.device-item.result
    c.loop-device-test.true c.device-item.is in
    let left = c.grants_left.ensures in
    let lesser = c.min-fewest.ensures in
    let before = c.loop-device.invariant in
    cc

pub returns : goal.returns
returns c =
    let devices = c.args.devices.now in
    let end : c.loop-device.device-index ≡ length devices = omega arith in
    c.loop-device.invariant ∙ ap fewest_left (ap (λ n. take n devices) end ∙ take-length devices)
