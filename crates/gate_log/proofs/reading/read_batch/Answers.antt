use Rattle.std.proofs.Common.{◌≡◌, ℕ, ◌+◌, List, get_or, take, drop, sym, ◌∙◌, ap, subst, arith}
use Rattle.disk.specs.State.{State}
use Rattle.gate_log.specs.declared.layout.TheConstants.{OPEN}
use Rattle.gate_log.specs.Layout.{head_bytes}
use Rattle.gate_log.specs.Recover.{IsBatchAt}
use Rattle.gate_log.proofs.Batches.{batch_at, no_batch_at}
use Rattle.gate_log.proofs.reading.read_batch.Goals as goal

pub returns-then-end-at-clause-damaged : goal.returns-then-end-at-clause-damaged
returns-then-end-at-clause-damaged g c honest is =
    let disk = (g.D.Disk.state c.args.disk.now).content in
    let same : (g.D.Disk.state c.is_open.new.disk).content ≡ disk = ap (λ (s : State). s.content) (c.is_open.ensures.reads.same honest) in
    let is_open : get_or disk c.args.at 0 ≡ OPEN = (c.in_ok-is_open.ensures.gate honest).0 c.if-not-branch.false in
    let spelled : head_bytes c.in_ok-head.head ≡ take 14 (drop (c.args.at + 1) disk) =
    c.in_ok-head.ensures.head honest ∙ ap (λ (l : List ℕ). take 14 (drop (c.args.at + 1) l)) same in
    no_batch_at disk c.args.end c.args.at c.in_ok-head.head is_open spelled c.in_ok-head.ensures.in_range (omega (arith, c.from.ensures, c.if-end-at.true, c.if-end-at-le-ENTRIES_AT.false))

pub returns-clause-batch : goal.returns-clause-batch
returns-clause-batch g c honest =
    let disk = (g.D.Disk.state c.args.disk.now).content in
    let same : (g.D.Disk.state c.is_open.new.disk).content ≡ disk = ap (λ (s : State). s.content) (c.is_open.ensures.reads.same honest) in
    let same_2 : (g.D.Disk.state c.read_head.new.disk).content ≡ disk = ap (λ (s : State). s.content) (c.read_head.ensures.reads.same honest) ∙ same in
    let is_open : get_or disk c.args.at 0 ≡ OPEN = (c.in_ok-is_open.ensures.gate honest).0 c.if-not-branch.false in
    let spelled : head_bytes c.in_ok-head.head ≡ take 14 (drop (c.args.at + 1) disk) =
    c.in_ok-head.ensures.head honest ∙ ap (λ (l : List ℕ). take 14 (drop (c.args.at + 1) l)) same in
    let entries = c.in_ok-entries.entries.items in
    let len = c.in_ok-head.head.entries_len in
    let read : entries ≡ take len (drop (c.args.at + 15) disk) =
    c.in_ok-entries.ensures.bytes honest ∙ ap (λ (l : List ℕ). take len (drop (c.args.at + 15) l)) same_2 in
    let batch = batch_at disk c.args.end c.args.at c.in_ok-head.head entries is_open spelled c.in_ok-head.ensures.in_range read c.in_ok-entries.ensures.len
    (omega (arith, c.from.ensures, c.if-end-at.false, c.if-end-at-le-ENTRIES_AT.false)) c.requires.within in
    subst (IsBatchAt disk c.args.end c.args.at) (sym c.new.ensures) batch
