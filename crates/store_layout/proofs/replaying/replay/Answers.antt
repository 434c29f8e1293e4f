use Rattle.std.proofs.Common.{◌≡◌, ◌∙◌, List, ℕ, length, nat_eq, refl, ap, arith}
use Rattle.std.proofs.lemmas.Result.{err_from_is_err_and}
use Rattle.std.proofs.lemmas.Bool.{false≢true}
use Rattle.store_layout.proofs.EntryLaws.{goes_on_at, record_laws, read_more, no_entry, no_place, no_rest, not_put, put_at}
use Rattle.store_layout.specs.Entries.EntryValue.{Whole}
use Rattle.store_layout.specs.ReadEntry.{value_of}
use Rattle.store_layout.proofs.replaying.replay.Goals as goal

pub returns-in_err-entry-clause-replayed : goal.returns-in_err-entry-clause-replayed
returns-in_err-entry-clause-replayed c =
    let p = err_from_is_err_and c.from_residual.result c.from_residual.ensures.1 in
    let laws = record_laws c.each_record_is_of_one_device.ensures c.records_are_short.ensures.most c.each_change_is_of_one_record.ensures c.args.version in
    rw (p.1, p.2) (λ other.
    let found = c.in_err-entry.ensures.read other in
    (found.0, no_entry laws c.args.table.now c.args.bytes.now c.loop-i._i c.args.count c.loop-i.table c.loop-i.rest.now c.loop-i.invariant c.loop-i-test.true found.1))

pub returns-in_err-put-clause-replayed : goal.returns-in_err-put-clause-replayed
returns-in_err-put-clause-replayed c =
    let p = err_from_is_err_and c.from_residual-in_err-put.result c.from_residual-in_err-put.ensures.1 in
    let laws = record_laws c.each_record_is_of_one_device.ensures c.records_are_short.ensures.most c.each_change_is_of_one_record.ensures c.args.version in
    rw (p.1, p.2) (λ other.
    let found = c.in_err-put.ensures.1 other in (
      found.0,
      no_place laws c.args.table.now c.args.bytes.now c.loop-i._i c.args.count c.loop-i.table c.loop-i.rest.now (value_of c.in_ok-entry.entry)
          c.in_ok-entry.behind.now c.loop-i.invariant c.loop-i-test.true c.in_ok-entry.ensures.read.0 c.in_ok-entry.ensures.read.1
          (not_put laws c.loop-i.table (value_of c.in_ok-entry.entry) c.in_ok-slot.slot c.in_ok-slot.device c.in_ok-slot.ensures.left.0
          c.in_ok-slot.ensures.left.1 found.1),
    ))

pub loop-i-preserved : goal.loop-i-preserved
loop-i-preserved c =
    read_more c.args.version c.args.table.now c.args.bytes.now c.loop-i._i c.loop-i.table c.loop-i.rest.now (value_of c.in_ok-entry.entry) c.in_ok-entry.behind.now c.put.new.self
    c.loop-i.invariant c.in_ok-entry.ensures.read.0 c.in_ok-entry.ensures.read.1
    (put_at c.args.version c.loop-i.table (value_of c.in_ok-entry.entry) c.put.new.self c.in_ok-slot.slot c.in_ok-slot.device c.in_ok-slot.ensures.left.0
    c.in_ok-slot.ensures.left.1 c.in_ok-put.ensures.0 c.in_ok-put.ensures.1)

pub returns-then-not-is_empty-clause-replayed : goal.returns-then-not-is_empty-clause-replayed
returns-then-not-is_empty-clause-replayed c =
    let laws = record_laws c.each_record_is_of_one_device.ensures c.records_are_short.ensures.most c.each_change_is_of_one_record.ensures c.args.version in
    let done : c.loop-i._i ≡ c.args.count = omega (arith, c.loop-i.auto._i-end) in
    λ other. (
      refl,
      no_rest laws c.args.table.now c.args.bytes.now c.loop-i._i c.args.count c.loop-i.table c.loop-i.rest.now c.loop-i.invariant done
          (λ none. false≢true (c.if-not-is_empty.ensures ∙ ap (λ (r : List ℕ). nat_eq (length r) 0) none)),
    )

pub returns-in_err-slot-clause-replayed : goal.returns-in_err-slot-clause-replayed
returns-in_err-slot-clause-replayed c =
    let p = err_from_is_err_and c.from_residual-in_err-slot.result c.from_residual-in_err-slot.ensures.1 in
    let laws = record_laws c.each_record_is_of_one_device.ensures c.records_are_short.ensures.most c.each_change_is_of_one_record.ensures c.args.version in
    rw (p.1, p.2) (λ other.
    let found = c.in_err-slot.ensures.left other in (
      found.0,
      no_place laws c.args.table.now c.args.bytes.now c.loop-i._i c.args.count c.loop-i.table c.loop-i.rest.now (value_of c.in_ok-entry.entry)
          c.in_ok-entry.behind.now c.loop-i.invariant c.loop-i-test.true c.in_ok-entry.ensures.read.0 c.in_ok-entry.ensures.read.1 (λ w put. found.1 put.after put.leaves),
    ))

pub returns-in_err-entry-clause-memory : goal.returns-in_err-entry-clause-memory
returns-in_err-entry-clause-memory c =
    let p = err_from_is_err_and c.from_residual.result c.from_residual.ensures.1 in
    rw (p.1, p.2) (λ memory.
    let some = c.in_err-entry.ensures.memory memory in
    goes_on_at c.args.version c.args.table.now c.args.bytes.now c.loop-i._i c.args.count c.loop-i.table c.loop-i.rest.now (Whole some.0 some.1.0) some.1.1.0
    c.loop-i.invariant c.loop-i-test.true some.1.1.1.1 some.1.1.1.0 some.1.0 refl)

pub returns-in_err-slot-clause-memory : goal.returns-in_err-slot-clause-memory
returns-in_err-slot-clause-memory c =
    let p = err_from_is_err_and c.from_residual-in_err-slot.result c.from_residual-in_err-slot.ensures.1 in
    rw (p.1, p.2) (λ memory.
    let left = c.in_err-slot.ensures.memory memory in
    goes_on_at c.args.version c.args.table.now c.args.bytes.now c.loop-i._i c.args.count c.loop-i.table c.loop-i.rest.now (value_of c.in_ok-entry.entry)
    c.in_ok-entry.behind.now c.loop-i.invariant c.loop-i-test.true c.in_ok-entry.ensures.read.0 c.in_ok-entry.ensures.read.1 left.0 left.1)

pub returns-in_err-put-clause-memory : goal.returns-in_err-put-clause-memory
returns-in_err-put-clause-memory c =
    let p = err_from_is_err_and c.from_residual-in_err-put.result c.from_residual-in_err-put.ensures.1 in
    rw (p.1, p.2) (λ memory.
    goes_on_at c.args.version c.args.table.now c.args.bytes.now c.loop-i._i c.args.count c.loop-i.table c.loop-i.rest.now (value_of c.in_ok-entry.entry)
    c.in_ok-entry.behind.now c.loop-i.invariant c.loop-i-test.true c.in_ok-entry.ensures.read.0 c.in_ok-entry.ensures.read.1 c.in_ok-slot.device c.in_ok-slot.ensures.left.1)
