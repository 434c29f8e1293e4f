use Rattle.std.proofs.Common.{◌≡◌, ◌++◌, ◌∙◌, take, ap, arith}
use Rattle.std.proofs.lemmas.Grind.{common_steps}
use Rattle.device_changes.specs.Faults.{row_fault, faults_of, faulty}
use Rattle.device_changes.proofs.Steps.{faults-more}
use Rattle.device_changes.proofs.checking.faulty_rows.Goals as goal

pub loop-row-preserved : goal.loop-row-preserved
loop-row-preserved c =
    let t = c.args.table.now in
    let rows = c.args.rows.now in
    let n = c.loop-row.row in
    let x = c.index-rows-row.result in
    let found = c.loop-row.found.items in
    let fault : c.row_fault-fault.result ≡ row_fault t (take n rows) x = grind (arith, common_steps) in
    faults-more t rows n x found c.add_faulty.new.found.items (faults_of t rows) c.loop-row-test.true c.index-rows-row.is c.loop-row.invariant
    (c.in_ok-add_faulty.ensures ∙ ap (λ o. found ++ faulty n o) fault)
