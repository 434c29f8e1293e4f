use Rattle.std.proofs.Common.{◌≡◌, ℕ, ◌+◌, List, Err, take, drop, sym, ◌∙◌, ap, subst, arith}
use Rattle.std.proofs.lemmas.Result.{err_from_is_err_and}
use Rattle.disk.specs.State.{State}
use Rattle.gate_log.specs.declared.error.RecoverError.TheVariants.{Damaged}
use Rattle.gate_log.specs.Recover.{AreBatchesAt}
use Rattle.gate_log.proofs.Recovering.{held_batches, next_is, one_journal, recovered}
use Rattle.gate_log.proofs.recover.recover_area.Goals as goal

pub returns-in_err-batches-clause-damaged : goal.returns-in_err-batches-clause-damaged
returns-in_err-batches-clause-damaged g c honest header is journal holds =
    let area = c.args.area in
    let disk = (g.D.Disk.state c.args.disk.now).content in
    let h = c.args.header in
    let now : (g.D.Disk.state c.read_bytes.new.disk).content ≡ disk = ap (λ (s : State). s.content) (c.read_bytes.ensures.reads.same honest) in
    let p = err_from_is_err_and c.from_residual-in_err-batches.result c.from_residual-in_err-batches.ensures.1 in
    let error : p.0 ≡ Damaged = cc (p.1, is) in
    let first = area.start + 30 + h.records_len in
    let held = held_batches area disk (omega (arith, c.requires.room)) c.requires.within h header journal holds in
    c.in_err-batches.ensures.damaged honest (ap Err (sym p.2 ∙ error)) journal.batches (subst (λ (l : List ℕ). AreBatchesAt l area.end first journal.batches) (sym now) held)

pub returns-clause-recovered : goal.returns-clause-recovered
returns-clause-recovered g c honest header =
    let area = c.args.area in
    let disk = (g.D.Disk.state c.args.disk.now).content in
    let now : (g.D.Disk.state c.read_bytes.new.disk).content ≡ disk = ap (λ (s : State). s.content) (c.read_bytes.ensures.reads.same honest) in
    let h = c.args.header in
    let records = c.in_ok-records.records.items in
    let read : records ≡ take h.records_len (drop (area.start + 30) disk) = c.in_ok-records.ensures.bytes honest in
    let batches = c.in_ok-batches.batches.items in
    let are : AreBatchesAt disk area.end (area.start + 30 + h.records_len) batches = subst (λ (l : List ℕ). AreBatchesAt l area.end (area.start + 30 + h.records_len) batches) now (c.in_ok-batches.ensures.batches honest) in
    let holds = recovered area disk (omega (arith, c.requires.room)) c.requires.within h header records read c.in_ok-records.ensures.len batches are in
    record {
      holds = holds;
      next = c.in_ok-batches.ensures.next ∙ next_is area disk (omega (arith, c.requires.room)) c.requires.within h header records read c.in_ok-records.ensures.len batches are;
      only = λ j held. one_journal area disk j _ held holds;
    }
