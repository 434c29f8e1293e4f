use Rattle.std.proofs.Common.{◌≡◌, ℕ, List, sym, subst, refl}
use Rattle.std.proofs.lemmas.Result.{err_from_is_err_and}
use Rattle.gate_log.specs.Layout.{BatchValue}
use Rattle.sessions.specs.Table.{TableState}
use Rattle.store.specs.Image.{IsCheckpointOf, BatchesLead}
use Rattle.store.proofs.area_table.area_table.Goals as goal

pub returns-in_err-table : goal.returns-in_err-table
returns-in_err-table c =
    let p = err_from_is_err_and c.from_residual-in_err-table.result c.from_residual-in_err-table.ensures.1 in
    rw (p.1, p.2) (λ other.
    let found = c.in_err-table.ensures.put other in
    let s = c.args.superblock.now in (
      found.0,
      λ t seq r. found.1 r.base
          (subst (λ (l : List ℕ). IsCheckpointOf c.args.version s.net_id s.slots l c.args.recovered.now.header.record_count r.base) (sym c.deref.ensures.value) r.checkpoint),
    ))

pub returns-in_err-seq : goal.returns-in_err-seq
returns-in_err-seq c =
    let p = err_from_is_err_and c.from_residual-in_err-seq.result c.from_residual-in_err-seq.ensures.1 in
    rw (p.1, p.2) (λ other.
    let found = c.in_err-seq.ensures.led other in
    let s = c.args.superblock.now in
    let h = c.args.recovered.now.header in (
      found.0,
      λ t seq r.
          let base : r.base ≡ c.in_ok-table.table =
          (c.in_ok-table.ensures.put r.base).0 (subst (λ (l : List ℕ). IsCheckpointOf c.args.version s.net_id s.slots l h.record_count r.base) (sym c.deref.ensures.value) r.checkpoint) in
          found.1 t seq
          (subst (λ (x : TableState). BatchesLead c.args.version x h.sequence c.deref-2.result.now t seq) base
          (subst (λ (bs : List BatchValue). BatchesLead c.args.version r.base h.sequence bs t seq) (sym c.deref-2.ensures.value) r.batches)),
    ))

pub returns : goal.returns
returns c =
    let s = c.args.superblock.now in
    let h = c.args.recovered.now.header in
    let table = c.in_ok-table.table in
    λ t seq. (
      λ r.
          let base : r.base ≡ table =
          (c.in_ok-table.ensures.put r.base).0 (subst (λ (l : List ℕ). IsCheckpointOf c.args.version s.net_id s.slots l h.record_count r.base) (sym c.deref.ensures.value) r.checkpoint) in
          (c.in_ok-seq.ensures.led t seq).0
          (subst (λ (x : TableState). BatchesLead c.args.version x h.sequence c.deref-2.result.now t seq) base
          (subst (λ (bs : List BatchValue). BatchesLead c.args.version r.base h.sequence bs t seq) (sym c.deref-2.ensures.value) r.batches)),
      λ same. record {
        base = table;
        checkpoint = subst (λ (l : List ℕ). IsCheckpointOf c.args.version s.net_id s.slots l h.record_count table) c.deref.ensures.value ((c.in_ok-table.ensures.put table).1 refl);
        batches = subst (λ (bs : List BatchValue). BatchesLead c.args.version table h.sequence bs t seq) c.deref-2.ensures.value ((c.in_ok-seq.ensures.led t seq).1 same);
      },
    )
