-- what waits for the devices so far
use Rattle.std.proofs.Common.{◌≡◌, ◌≤◌, ◌*◌, take, sum_by}
use Rattle.device_changes.specs.Waiting.{waiting_for}
use Rattle.device_changes.proofs.waiting.waiting_items.Given as goal

abbrev pub invariant-loop-device : goal.invariant-loop-device
invariant-loop-device l =
    (l.waiting ≡ sum_by waiting_for (take l.device-index l.device-items)) × (l.waiting ≤ 17 * l.device-index)
