use Rattle.std.proofs.Common.{◌≡◌, ◌∙◌, ◌++◌, ℕ, List, drop, length, ap, subst, sym}
use Rattle.std.proofs.lemmas.List.{drop_at}
use Rattle.gate_log.specs.Phases.{IsBegun}
use Rattle.store.proofs.store.Store.begun_of.Goals as goal

pub returns-clause-entries : goal.returns-clause-entries
returns-clause-entries g c =
    let front = c.in_ok-bytes.bytes.items in
    let put = c.in_ok-put_batch.ensures.entries in
    let entries = put.0 in
    let begun : ℕ → List ℕ → Type 0 = λ n l. IsBegun c.in_ok-phase.phase (record { last_sequence = c.args.commit.last; entry_count = n; entries = l }) in
    let behind = ap (drop 14) put.1 ∙ drop_at front entries 14 c.in_ok-bytes.ensures.len in (
      entries,
      put.2,
      subst (λ n. begun n entries) c.len-count.ensures.len (subst (begun c.len-count.result) behind c.in_ok-phase.ensures.begun),
    )
