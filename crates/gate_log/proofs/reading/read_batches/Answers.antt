use Rattle.std.proofs.Common.{◌≡◌, ℕ, ◌+◌, ◌<◌, List, [], ◌∷◌, ◌++◌, Err, false, length, length-append, drop, sym, ◌∙◌, ap, subst, arith}
use Rattle.std.proofs.lemmas.Result.{err_from_is_err_and}
use Rattle.disk.specs.State.{State}
use Rattle.gate_log.specs.declared.error.RecoverError.TheVariants.{Damaged}
use Rattle.gate_log.specs.Layout.{BatchValue, AreHeads, body, open_batches}
use Rattle.gate_log.specs.Recover.{IsBatchAt, NoBatchAt}
use Rattle.gate_log.proofs.Batches.{length-body, length-open_batches-append, no_batches, read_on, ReadOn}
use Rattle.gate_log.proofs.ReadsOn.{reads_on}
use Rattle.gate_log.proofs.reading.read_batches.Goals as goal

pub returns-in_err-batch-clause-damaged : goal.returns-in_err-batch-clause-damaged
returns-in_err-batch-clause-damaged g c honest is batches are =
    let disk = (g.D.Disk.state c.args.disk.now).content in
    let now : (g.D.Disk.state c.loop-batches.disk).content ≡ disk = ap (λ (s : State). s.content) (c.loop-batches.invariant.reads.same honest) in
    let p = err_from_is_err_and c.from_residual.result c.from_residual.ensures.1 in
    let error : p.0 ≡ Damaged = cc (p.1, is) in
    let damaged : NoBatchAt disk c.args.end c.loop-batches.at = subst (λ (l : List ℕ). NoBatchAt l c.args.end c.loop-batches.at) now (c.in_err-batch.ensures.damaged honest (ap Err (sym p.2 ∙ error))) in
    no_batches disk c.args.end c.args.first c.loop-batches.at c.loop-batches.batches.items (c.loop-batches.invariant.heads honest) (c.loop-batches.invariant.bytes honest) c.loop-batches.invariant.at (omega (arith, c.loop-batches.invariant.room, c.requires.within)) damaged batches are

pub loop-batches-preserved : goal.loop-batches-preserved
loop-batches-preserved g c =
    let disk = (g.D.Disk.state c.args.disk.now).content in
    let b = c.in-Some.batch in
    let at = c.loop-batches.at in
    let next = at + (15 + length c.entries.result.now) in
    let size : length c.entries.result.now ≡ length b.entries = ap length c.entries.ensures in
    let items : c.push.new.self.items ≡ c.loop-batches.batches.items ++ b ∷ [] = c.in_ok-push.ensures.items in
    let more = open_batches (c.loop-batches.batches.items ++ b ∷ []) in
    let read : g.D.Disk.honest → ReadOn disk c.args.first next (c.loop-batches.batches.items ++ b ∷ []) = λ honest.
    let now : (g.D.Disk.state c.loop-batches.disk).content ≡ disk = ap (λ (s : State). s.content) (c.loop-batches.invariant.reads.same honest) in
    let batch : IsBatchAt (g.D.Disk.state c.loop-batches.disk).content c.args.end at b = rw c.in-Some.is at (c.in_ok-batch.ensures.batch honest) in
    read_on disk c.args.end c.args.first at next c.loop-batches.batches.items b (c.loop-batches.invariant.bytes honest) (c.loop-batches.invariant.heads honest)
    (subst (λ (l : List ℕ). IsBatchAt l c.args.end at b) now batch) (ap (λ (n : ℕ). at + (15 + n)) size) in
    record {
      reads = reads_on g.D.Disk.honest g.D.Disk.state g.D.Disk.failures g.D.Disk.outlook c.args.disk.now c.loop-batches.disk c.read_batch.new.disk false c.loop-batches.invariant.reads c.in_ok-batch.ensures.reads;
      bytes = λ honest. (read honest).bytes ∙ ap (λ (l : List BatchValue). open_batches l ++ drop next disk) (sym items);
      heads = λ honest. subst AreHeads (sym items) (read honest).heads;
      at = omega (arith, size, c.loop-batches.invariant.at, ap (λ (l : List BatchValue). length (open_batches l)) items, length-open_batches-append c.loop-batches.batches.items (b ∷ []), length-append (body b) [], length-body b);
      room = let fits : c.loop-batches.at + 15 + length b.entries < c.args.end = rw c.in-Some.is at c.in_ok-batch.ensures.fits in omega (arith, size, fits);
    }
