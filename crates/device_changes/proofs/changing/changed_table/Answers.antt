use Rattle.device_changes.proofs.Covering.{covers_as, keeps_marks_as}
use Rattle.device_changes.proofs.changing.changed_table.Goals as goal

pub returns-in-Ok-with_changes-clause-keeps_marks : goal.returns-in-Ok-with_changes-clause-keeps_marks
returns-in-Ok-with_changes-clause-keeps_marks c =
    keeps_marks_as c.args.rows.now c.args.table.now c.in-Ok-with_changes.changed c.in-Ok-with_changes.ensures c.devices.ensures.own

pub returns-in-Ok-with_changes-clause-imported : goal.returns-in-Ok-with_changes-clause-imported
returns-in-Ok-with_changes-clause-imported c =
    covers_as c.args.rows.now c.args.table.now c.in-Ok-with_changes.changed c.in-Ok-with_changes.ensures c.devices.ensures.own
