use Rattle.std.proofs.Common.{◌++◌, ◌∷◌, ◌∙◌, List, [], ap, sym, subst}
use Rattle.devices.specs.declared.device.Device.{Device}
use Rattle.sessions.specs.Table.{TableState}
use Rattle.device_changes.specs.Table.{CanTake, imported_devices}
use Rattle.device_changes.proofs.Steps.{next_can, next_devices, next_none}
use Rattle.device_changes.proofs.changing.with_changes.Goals as goal

pub bring-requires : goal.bring-requires
bring-requires c =
    let x = c.change-item.result in
    subst (λ (s : TableState). CanTake s x) (sym c.loop-change.invariant.0)
    (next_can c.args.rows.now c.args.table.now c.loop-change.change-index x c.loop-change-test.true c.change-item.is c.loop-change.invariant.1)

pub loop-change-preserved : goal.loop-change-preserved
loop-change-preserved c =
    let t = c.args.table.now in
    let rows = c.args.rows.now in
    let n = c.loop-change.change-index in
    let x = c.change-item.result in
    let inside = c.loop-change-test.true in
    let item = c.change-item.is in
    let none = c.loop-change.invariant.1 in (
      c.bring.ensures
          ∙ (ap (λ (s : TableState). let left : TableState = record s { devices = s.devices ++ imported_devices (x ∷ []) } in left) c.loop-change.invariant.0
          ∙ ap (λ (ds : List Device). let left : TableState = record t { devices = ds } in left) (next_devices rows t n x inside item none)),
      next_none rows t n x inside item none,
    )
