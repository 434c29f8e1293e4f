use Rattle.std.proofs.Common.{◌∙◌, sym, ap}
use Rattle.std.specs.Option.{option_copied}
use Rattle.sessions.proofs.Placing.{device-new, device-other}
use Rattle.sessions.proofs.table.overlay.device_after.Goals.{then-decision-slot, else-decision-slot}
use Rattle.sessions.proofs.table.overlay.device_after.Goals as goal

pub loop-decision-preserved : goal.loop-decision-preserved
loop-decision-preserved c t fit before =
    let ds = c.args.decisions.now in
    let n = c.loop-decision.decision-index in
    let d = c.decision-item.result in
    elim c.if-decision-slot.branch [
      | then-decision-slot w ↦
          ap option_copied w.found-is ∙ sym (device-new t ds n d c.loop-decision-test.true c.decision-item.is fit c.args.slot w.if-decision-slot.true)
      | else-decision-slot w ↦
          ap option_copied w.found-is
          ∙ (c.loop-decision.invariant t fit before
          ∙ sym (device-other t ds n d c.loop-decision-test.true c.decision-item.is fit c.args.slot w.if-decision-slot.false))
    ]
