use Rattle.std.proofs.Common.{◌∙◌, ◌+◌, sym, ap}
use Rattle.sessions.proofs.Placing.{length-new, length-same}
use Rattle.sessions.proofs.table.overlay.len_after.Goals.{then-decision-len, else-decision-len}
use Rattle.sessions.proofs.table.overlay.len_after.Goals as goal

pub loop-decision-preserved : goal.loop-decision-preserved
loop-decision-preserved c t fit before =
    let ds = c.args.decisions.now in
    let n = c.loop-decision.decision-index in
    let d = c.decision-item.result in
    let so_far = c.loop-decision.invariant t fit before in
    elim c.if-decision-len.branch [
      | then-decision-len w ↦
          w.len-is
          ∙ (ap (λ k. k + 1) so_far
          ∙ sym (length-new t ds n d c.loop-decision-test.true c.decision-item.is fit (w.if-decision-len.true ∙ so_far)))
      | else-decision-len w ↦
          w.len-is
          ∙ (so_far
          ∙ sym (length-same t ds n d c.loop-decision-test.true c.decision-item.is fit (λ e. w.if-decision-len.false (e ∙ sym so_far))))
    ]
