use Rattle.std.proofs.Common.{◌≡◌, ◌∙◌, take, Result, Ok, Err, ap, sym, arith}
use Rattle.std.proofs.lemmas.Result.{err_from_is_err_and}
use Rattle.lw_types.specs.declared.refusal.Refusal.{Refusal}
use Rattle.gate_log.specs.Opening.{disk_in_opening}
use Rattle.store_layout.specs.declared.superblock.Superblock.{Superblock}
use Rattle.store.proofs.Holding.{front_fault, size_fault}
use Rattle.store.proofs.recover.read_superblock.Goals as goal

no_ok : (e : Refusal) (s : Superblock) → ◌≡◌ {A = Result Superblock Refusal} (Err e) (Ok s) → ⊥
no_ok e s h = cc

same_err : (a b : Refusal) → ◌≡◌ {A = Result Superblock Refusal} (Err a) (Err b) → a ≡ b
same_err a b h = cc

same_ok : (a b : Superblock) → ◌≡◌ {A = Result Superblock Refusal} (Ok a) (Ok b) → a ≡ b
same_ok a b h = cc

pub returns-in_err-superblock-clause-refused : goal.returns-in_err-superblock-clause-refused
returns-in_err-superblock-clause-refused g c honest =
    let p = err_from_is_err_and c.from_residual-in_err-superblock.result c.from_residual-in_err-superblock.ensures.1 in
    rw (p.1, p.2) (λ other.
    let content = (g.D.Disk.state (disk_in_opening c.args.opening.now)).content in
    let e = c.in_err-superblock.field-0.0 in
    let bytes = c.in_ok-bytes.bytes in
    let k = c.in_err-superblock.ensures in
    front_fault content bytes e (c.in_ok-bytes.ensures.bytes honest) (omega (arith, c.if-len.false, c.len.ensures))
    (λ n s a few is. no_ok e _ (k.only n s a few is))
    (λ named. k.not_formatted.0 (ap Err named), λ un. same_err e _ (k.not_formatted.1 un))
    (λ version. k.version.0 (ap Err version), λ un. same_err e _ (k.version.1 un))
    k.refused)

pub returns-then-len-disk_len-clause-refused : goal.returns-then-len-disk_len-clause-refused
returns-then-len-disk_len-clause-refused g c honest other =
    let content = (g.D.Disk.state (disk_in_opening c.args.opening.now)).content in
    let s = c.in_ok-superblock.superblock in
    let k = c.in_ok-superblock.ensures in
    let bytes : c.in_ok-bytes.bytes ≡ take 32 content = c.in_ok-bytes.ensures.bytes honest in
    size_fault content s.net_id s.slots (omega (arith, c.if-len.false, c.len.ensures))
    (record { net_id_range = k.in_range.0; slots_range = k.in_range.1; superblock = sym bytes ∙ k.found })
    (λ n m is.
    let same = same_ok s _ (k.only n m is.net_id_range is.slots_range (bytes ∙ is.superblock)) in
    (ap (λ (x : Superblock). x.net_id) (sym same), ap (λ (x : Superblock). x.slots) (sym same)))
    (λ same. c.if-len-disk_len.true (c.len-2.ensures ∙ (c.in_ok-bytes.ensures.reads.same_length ∙ (same ∙ sym c.disk_len.ensures))))
