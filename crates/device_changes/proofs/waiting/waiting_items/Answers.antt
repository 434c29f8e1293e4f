use Rattle.std.proofs.Common.{◌+◌, ◌∙◌, length, take, sum_by, ap, sym, arith}
use Rattle.device_changes.specs.Waiting.{waiting_for}
use Rattle.device_changes.proofs.Steps.{waiting-more}
use Rattle.device_changes.proofs.waiting.waiting_items.Goals as goal

pub overflow_add-waiting : goal.overflow_add-waiting
overflow_add-waiting c =
    let items = c.devices-device-items.ensures in
    omega (arith, c.loop-device.invariant.1, c.waiting_for-waiting.ensures.few, ap length items.devices, items.few, c.get-most.ensures.value, c.get-most.ensures.most, c.slots.ensures, c.loop-device-test.true)

pub loop-device-preserved : goal.loop-device-preserved
loop-device-preserved c =
    let items = c.devices-device-items.result.now in
    let n = c.loop-device.device-index in
    let more = c.waiting_for-waiting.result in (
      ap (λ k. k + more) c.loop-device.invariant.0
          ∙ (ap (λ k. sum_by waiting_for (take n items) + k) c.waiting_for-waiting.ensures.value
          ∙ sym (waiting-more items n c.device-item.result c.loop-device-test.true c.device-item.is)),
      omega (arith, c.loop-device.invariant.1, c.waiting_for-waiting.ensures.few),
    )
