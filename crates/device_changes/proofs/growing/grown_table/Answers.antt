use Rattle.std.proofs.Common.{◌∙◌, sym, subst, arith}
use Rattle.sessions.specs.Table.{TableState}
use Rattle.device_changes.specs.Marks.{DecidesAlike, KeepsMarks}
use Rattle.device_changes.proofs.Covering.{alike-grown, keeps_marks-grown}
use Rattle.device_changes.proofs.Steps.{only_grown}
use Rattle.device_changes.proofs.growing.grown_table.Goals as goal

pub returns-in-Ok-clause-grown : goal.returns-in-Ok-clause-grown
returns-in-Ok-clause-grown c = (
  omega (arith, c.if-get.false, c.get.ensures.value, c.get-2.ensures.value, c.slots.ensures),
  c.in-Ok.ensures ∙ only_grown c.args.slots c.args.table.now,
)

pub returns-in-Ok-clause-keeps_marks : goal.returns-in-Ok-clause-keeps_marks
returns-in-Ok-clause-keeps_marks c =
    let t = c.args.table.now in
    subst (λ (x : TableState). KeepsMarks t x) (sym (c.in-Ok.ensures ∙ only_grown c.args.slots t)) (keeps_marks-grown c.args.slots t)

pub returns-in-Ok-clause-alike : goal.returns-in-Ok-clause-alike
returns-in-Ok-clause-alike c =
    let t = c.args.table.now in
    subst (λ (x : TableState). DecidesAlike t x) (sym (c.in-Ok.ensures ∙ only_grown c.args.slots t)) (alike-grown c.args.slots t)
