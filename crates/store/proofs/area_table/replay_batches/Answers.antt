use Rattle.std.proofs.Common.{◌≡◌, ◌∙◌, ◌+◌, ◌∷◌, ◌++◌, [], ℕ, drop, take, sym, ap, subst}
use Rattle.std.proofs.lemmas.List.{drop_more, take-append-drop, take_more}
use Rattle.std.proofs.lemmas.Result.{err_from_is_err_and}
use Rattle.gate_log.specs.Layout.{BatchValue}
use Rattle.store.specs.Image.{BatchesLead}
use Rattle.store.proofs.Restoring.{lead_on, lead_push}
use Rattle.store.proofs.area_table.replay_batches.Goals as goal

pub returns-in_err-replay_batch-clause-led : goal.returns-in_err-replay_batch-clause-led
returns-in_err-replay_batch-clause-led c =
    let p = err_from_is_err_and c.from_residual.result c.from_residual.ensures.1 in
    rw (p.1, p.2) (λ other.
    let bs = c.args.batches.now in
    let i = c.loop-batch.batch-index in
    let b = c.batch-item.result in
    let found = c.in_err-replay_batch.ensures.put other in
    let at : drop i bs ≡ b ∷ drop (i + 1) bs = drop_more bs i b c.loop-batch-test.true ∙ ap (λ (x : BatchValue). x ∷ drop (i + 1) bs) (sym c.batch-item.is) in (
      found.0,
      λ u n lead.
          let here = subst (λ l. BatchesLead c.args.version c.loop-batch.table c.loop-batch.last l u n) at ((c.loop-batch.invariant.0 u n).0 lead) in
          found.1 here.0 here.1 here.2,
    ))

pub returns-in_err-replay_batch-clause-memory : goal.returns-in_err-replay_batch-clause-memory
returns-in_err-replay_batch-clause-memory c =
    let p = err_from_is_err_and c.from_residual.result c.from_residual.ensures.1 in
    rw (p.1, p.2) (λ memory.
    let bs = c.args.batches.now in
    let i = c.loop-batch.batch-index in
    let b = c.batch-item.result in
    let at : drop i bs ≡ b ∷ drop (i + 1) bs = drop_more bs i b c.loop-batch-test.true ∙ ap (λ (x : BatchValue). x ∷ drop (i + 1) bs) (sym c.batch-item.is) in
    record {
      front = take i bs;
      next = b;
      behind = drop (i + 1) bs;
      parts = sym (take-append-drop i bs) ∙ ap (λ l. take i bs ++ l) at;
      here = c.loop-batch.table;
      last = c.loop-batch.last;
      leads = c.loop-batch.invariant.1;
      goes_on = c.in_err-replay_batch.ensures.memory memory;
    })

pub loop-batch-preserved : goal.loop-batch-preserved
loop-batch-preserved c =
    let bs = c.args.batches.now in
    let i = c.loop-batch.batch-index in
    let b = c.batch-item.result in
    let v = c.args.version in
    let at : drop i bs ≡ b ∷ drop (i + 1) bs = drop_more bs i b c.loop-batch-test.true ∙ ap (λ (x : BatchValue). x ∷ drop (i + 1) bs) (sym c.batch-item.is) in
    let more : take (i + 1) bs ≡ take i bs ++ b ∷ [] = take_more bs i b c.loop-batch-test.true ∙ ap (λ (x : BatchValue). take i bs ++ x ∷ []) (sym c.batch-item.is) in
    let put = c.in_ok-replay_batch.ensures.put in
    let pushed =
    lead_push v c.args.table.now c.args.seq (take i bs) c.loop-batch.table c.loop-batch.last b put.0 c.replay_batch.new.table c.loop-batch.invariant.1 put.1 in (
      λ u n.
          let on = lead_on v c.loop-batch.table c.replay_batch.new.table c.loop-batch.last b (drop (i + 1) bs) put.0 put.1 put.2 u n in
          let to_last : ℕ → Type 0 = λ k. BatchesLead v c.replay_batch.new.table k (drop (i + 1) bs) u n in (
            λ lead. subst to_last (sym c.last_sequence-last.ensures) (on.0 (subst (λ l. BatchesLead v c.loop-batch.table c.loop-batch.last l u n) at ((c.loop-batch.invariant.0 u n).0 lead))),
            λ lead. (c.loop-batch.invariant.0 u n).1 (subst (λ l. BatchesLead v c.loop-batch.table c.loop-batch.last l u n) (sym at) (on.1 (subst to_last c.last_sequence-last.ensures lead))),
          ),
      subst (λ k. BatchesLead v c.args.table.now c.args.seq (take (i + 1) bs) c.replay_batch.new.table k) (sym c.last_sequence-last.ensures)
          (subst (λ l. BatchesLead v c.args.table.now c.args.seq l c.replay_batch.new.table b.last_sequence) (sym more) pushed),
    )
