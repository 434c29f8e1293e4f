use Rattle.std.proofs.Common.{◌<◌, ◌∙◌, length, get_or, ap, sym, subst, arith}
use Rattle.sessions.specs.Table.{CanPlace, TableState, with_record}
use Rattle.device_changes.proofs.Steps.{can_place, placed}
use Rattle.device_changes.proofs.changing.with_changed_devices.Goals as goal

pub set_device-requires : goal.set_device-requires
set_device-requires c =
    let t = c.args.table.now in
    let rows = c.args.rows.now in
    let n = c.loop-slot.slot in
    let d = c.device-item.result in
    let e = c.in_ok-next.next in
    let same = c.devices-device-items.ensures.devices in
    let within : n < length t.devices = subst (λ l. n < length l) same c.loop-slot-test.true in
    let free : n < c.args.slots = omega (arith, c.if-prove.false, c.get-most.ensures.value) in
    subst (λ (x : TableState). CanPlace x n e) (sym c.loop-slot.invariant)
    (can_place rows t c.args.slots n d e c.devices-device-items.ensures.own within (c.device-item.is ∙ ap (λ l. get_or l n d) same) c.in_ok-next.ensures free)

pub loop-slot-preserved : goal.loop-slot-preserved
loop-slot-preserved c =
    let t = c.args.table.now in
    let rows = c.args.rows.now in
    let n = c.loop-slot.slot in
    let d = c.device-item.result in
    let e = c.in_ok-next.next in
    let same = c.devices-device-items.ensures.devices in
    let within : n < length t.devices = subst (λ l. n < length l) same c.loop-slot-test.true in
    c.set_device.ensures
    ∙ (ap (λ (x : TableState). with_record x n e) c.loop-slot.invariant
    ∙ placed rows t c.args.slots n d e c.devices-device-items.ensures.own within (c.device-item.is ∙ ap (λ l. get_or l n d) same) c.in_ok-next.ensures)
