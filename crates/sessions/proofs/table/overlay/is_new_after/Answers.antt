use Rattle.std.proofs.Common.{◌≡◌, ◌≢◌, ◌∙◌, ℕ, true, nat_eq, not, sym, ap}
use Rattle.std.proofs.lemmas.Bool.{eq-eqb, ne_eqb, false≢true}
use Rattle.sessions.proofs.Placing.{new-more}
use Rattle.sessions.proofs.table.overlay.is_new_after.Goals.{then-is_new, else-is_new}
use Rattle.sessions.proofs.table.overlay.is_new_after.Goals as goal

apart : (m n : ℕ) → not (nat_eq m n) ≡ true → m ≢ n
apart m n other same = false≢true (sym (ap not (eq-eqb m n same)) ∙ other)

pub loop-decision-preserved : goal.loop-decision-preserved
loop-decision-preserved c t fit before =
    let d = c.decision-item.result in
    let e = c.args.dev_eui.0 in
    let so_far = c.loop-decision.invariant t fit before in
    let more = new-more t c.args.decisions.now c.loop-decision.decision-index d c.loop-decision-test.true c.decision-item.is fit e in
    elim c.if-is_new.branch [
      | then-is_new w ↦ (
        λ yes. more.1 (so_far.0 w.if-is_new.true, apart d.after.dev_eui.0 e (sym w.ne-is_new.ensures ∙ (sym w.is_new-is ∙ yes))),
        λ none. w.is_new-is ∙ (w.ne-is_new.ensures ∙ ap not (ne_eqb d.after.dev_eui.0 e (more.0 none).1)),
      )
      | else-is_new w ↦ (
        λ yes. absurd (false≢true (sym w.if-is_new.false ∙ (sym w.is_new-is ∙ yes))),
        λ none. absurd (false≢true (sym w.if-is_new.false ∙ so_far.1 (more.0 none).0)),
      )
    ]
