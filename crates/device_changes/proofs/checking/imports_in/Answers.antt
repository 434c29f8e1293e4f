use Rattle.std.proofs.Common.{◌+◌, ◌∙◌, length, take, ap, sym, arith}
use Rattle.device_changes.specs.Table.{imported_devices}
use Rattle.device_changes.proofs.Steps.{imports-more}
use Rattle.device_changes.proofs.checking.imports_in.Goals as goal

pub loop-change-preserved : goal.loop-change-preserved
loop-change-preserved c =
    let rows = c.args.rows.now in
    let n = c.loop-change.change-index in
    let more = c.imports_of-imports.result in (
      ap (λ k. k + more) c.loop-change.invariant.0
          ∙ (ap (λ k. length (imported_devices (take n rows)) + k) c.imports_of-imports.ensures.value
          ∙ sym (imports-more rows n c.change-item.result c.loop-change-test.true c.change-item.is)),
      omega (arith, c.loop-change.invariant.1, c.imports_of-imports.ensures.few),
    )
