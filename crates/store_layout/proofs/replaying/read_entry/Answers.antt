use Rattle.std.proofs.Common.{drop, ◌≡◌, ◌<◌, ◌^◌, ◌∙◌, ◌++◌, arith, sym}
use Rattle.std.proofs.lemmas.Result.{err_from_is_err_and}
use Rattle.std.proofs.lemmas.List.{take_rest}
use Rattle.store_layout.specs.ReadEntry.{value_of}
use Rattle.store_layout.proofs.EntryLaws.{framed, no_body, short_in}
use Rattle.store_layout.proofs.replaying.read_entry.Goals as goal

pub returns-in_err-entry-clause-read : goal.returns-in_err-entry-clause-read
returns-in_err-entry-clause-read c =
    let p = err_from_is_err_and c.from_residual.result c.from_residual.ensures.1 in
    rw (p.1, p.2) (λ other.
    let refused = c.in_err-entry.ensures.read other in (
      refused.0,
      no_body c.args.version c.args.bytes.now c.split_at.result.0.now c.from-len.result (short_in c.records_are_short.ensures.most c.args.version)
          refused.1 c.split_at.ensures.front (c.from-len.ensures ∙ c.from_be_bytes.ensures),
    ))

pub returns-in_err-entry-clause-memory : goal.returns-in_err-entry-clause-memory
returns-in_err-entry-clause-memory c =
    let p = err_from_is_err_and c.from_residual.result c.from_residual.ensures.1 in
    rw (p.1, p.2) (λ memory.
    let some = c.in_err-entry.ensures.memory memory in
    let device = some.1.0 in
    let body = c.split_at.result.0.now in
    let behind = c.split_at.result.1.now in
    let rest : drop 5 c.args.bytes.now ≡ body ++ behind = sym (take_rest c.args.bytes.now 5) ∙ c.split_at.ensures.by_index.0 in
    let spelled =
    framed c.args.bytes.now body behind c.from_be_bytes-slot.result c.from-len.result c.in-len5-up.len_at_least (λ i. (c.type_inv.bytes i).fits)
    c.from_be_bytes-slot.ensures (c.from-len.ensures ∙ c.from_be_bytes.ensures) c.split_at.ensures.front_len rest in
    let low = (c.type_inv.bytes 2).fits in
    let high = (c.type_inv.bytes 1).fits in
    let small : c.from_be_bytes-slot.result < 2 ^ 16 = omega (arith, c.from_be_bytes-slot.ensures, low, high) in
    (c.from_be_bytes-slot.result, (device, (behind, ((small, some.1.1), rw (sym some.0, sym some.1.2) spelled)))))

pub returns-clause-read : goal.returns-clause-read
returns-clause-read c =
    let e = value_of c.in_ok-entry.entry in
    let is = c.in_ok-entry.ensures.read in
    let body = c.split_at.result.0.now in
    let behind = c.split_at.result.1.now in
    let rest : drop 5 c.args.bytes.now ≡ body ++ behind = sym (take_rest c.args.bytes.now 5) ∙ c.split_at.ensures.by_index.0 in
    let spelled =
    framed c.args.bytes.now body behind c.from_be_bytes-slot.result c.from-len.result c.in-len5-up.len_at_least (λ i. (c.type_inv.bytes i).fits)
    c.from_be_bytes-slot.ensures (c.from-len.ensures ∙ c.from_be_bytes.ensures) c.split_at.ensures.front_len rest in
    (rw (is.0, is.1, is.2) spelled, is.3)
