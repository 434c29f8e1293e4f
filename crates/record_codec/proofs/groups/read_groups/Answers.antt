use Rattle.record_codec.specs.ChangeReading.{last_bit_at}
use Rattle.record_codec.proofs.ChangeFields.{read4, read5, read6}
use Rattle.record_codec.proofs.GroupSteps.{behind_group, behind_three, no_group}
use Rattle.record_codec.proofs.groups.read_groups.Goals as goal

pub returns-in_err-pending-clause-field : goal.returns-in_err-pending-clause-field
returns-in_err-pending-clause-field c = rw c.from_residual-in_err-pending.ensures (behind_three c.args.version _ _ _ _ _ _ _ _ _ _ _ _ c.in_ok-nonces.nonces c.in_ok-current.current c.in_ok-counters.counters _ c.in_ok-byte.ensures.field c.next.ensures.value c.next.ensures.others c.in_ok-nonces.ensures c.next-2.ensures.value c.next-2.ensures.others c.in_ok-current.ensures c.next-3.ensures.value c.next-3.ensures.others c.in_ok-counters.ensures
    (no_group _ (read4 c.args.version) _ _ _ c.next-4.ensures.value c.in_err-pending.ensures))

pub returns-in_err-awaited-clause-field : goal.returns-in_err-awaited-clause-field
returns-in_err-awaited-clause-field c = rw c.from_residual-in_err-awaited.ensures (behind_three c.args.version _ _ _ _ _ _ _ _ _ _ _ _ c.in_ok-nonces.nonces c.in_ok-current.current c.in_ok-counters.counters _ c.in_ok-byte.ensures.field c.next.ensures.value c.next.ensures.others c.in_ok-nonces.ensures c.next-2.ensures.value c.next-2.ensures.others c.in_ok-current.ensures c.next-3.ensures.value c.next-3.ensures.others c.in_ok-counters.ensures
    (behind_group _ (read4 c.args.version) _ _ _ _ _ _ _ c.next-4.ensures.value c.next-4.ensures.others c.in_ok-pending.ensures
    (no_group _ (read5 c.args.version) _ _ _ c.next-5.ensures.value c.in_err-awaited.ensures)))

pub returns-in_err-mac_queue-clause-field : goal.returns-in_err-mac_queue-clause-field
returns-in_err-mac_queue-clause-field c = rw c.from_residual-in_err-mac_queue.ensures (behind_three c.args.version _ _ _ _ _ _ _ _ _ _ _ _ c.in_ok-nonces.nonces c.in_ok-current.current c.in_ok-counters.counters _ c.in_ok-byte.ensures.field c.next.ensures.value c.next.ensures.others c.in_ok-nonces.ensures c.next-2.ensures.value c.next-2.ensures.others c.in_ok-current.ensures c.next-3.ensures.value c.next-3.ensures.others c.in_ok-counters.ensures
    (behind_group _ (read4 c.args.version) _ _ _ _ _ _ _ c.next-4.ensures.value c.next-4.ensures.others c.in_ok-pending.ensures
    (behind_group _ (read5 c.args.version) _ _ _ _ _ _ _ c.next-5.ensures.value c.next-5.ensures.others c.in_ok-awaited.ensures
    (no_group _ (read6 c.args.version) _ _ _ c.next-6.ensures.value c.in_err-mac_queue.ensures.field))))

pub returns-in_default-clause-field : goal.returns-in_default-clause-field
returns-in_default-clause-field c = (behind_three c.args.version _ _ _ _ _ _ _ _ _ _ _ _ c.in_ok-nonces.nonces c.in_ok-current.current c.in_ok-counters.counters _ c.in_ok-byte.ensures.field c.next.ensures.value c.next.ensures.others c.in_ok-nonces.ensures c.next-2.ensures.value c.next-2.ensures.others c.in_ok-current.ensures c.next-3.ensures.value c.next-3.ensures.others c.in_ok-counters.ensures
    (behind_group _ (read4 c.args.version) _ _ _ _ _ _ _ c.next-4.ensures.value c.next-4.ensures.others c.in_ok-pending.ensures
    (behind_group _ (read5 c.args.version) _ _ _ _ _ _ _ c.next-5.ensures.value c.next-5.ensures.others c.in_ok-awaited.ensures
    (behind_group _ (read6 c.args.version) _ _ _ _ _ _ _ c.next-6.ensures.value c.next-6.ensures.others c.in_ok-mac_queue.ensures.field
    (no_group _ (last_bit_at c.args.version) _ _ _ c.next-7.ensures.value c.in_default.ensures.field)))))

pub returns-in_default-last-clause-field : goal.returns-in_default-last-clause-field
returns-in_default-last-clause-field c = behind_three c.args.version _ _ _ _ _ _ _ _ _ _ _ _ c.in_ok-nonces.nonces c.in_ok-current.current c.in_ok-counters.counters _ c.in_ok-byte.ensures.field c.next.ensures.value c.next.ensures.others c.in_ok-nonces.ensures c.next-2.ensures.value c.next-2.ensures.others c.in_ok-current.ensures c.next-3.ensures.value c.next-3.ensures.others c.in_ok-counters.ensures
    (behind_group _ (read4 c.args.version) _ _ _ _ _ _ _ c.next-4.ensures.value c.next-4.ensures.others c.in_ok-pending.ensures
    (behind_group _ (read5 c.args.version) _ _ _ _ _ _ _ c.next-5.ensures.value c.next-5.ensures.others c.in_ok-awaited.ensures
    (behind_group _ (read6 c.args.version) _ _ _ _ _ _ _ c.next-6.ensures.value c.next-6.ensures.others c.in_ok-mac_queue.ensures.field
    (behind_group _ (last_bit_at c.args.version) _ _ _ _ _ _ _ c.next-7.ensures.value c.next-7.ensures.others c.in-Some.ensures.field
    (c.in_default-last.ensures _)))))

pub returns-clause-field : goal.returns-clause-field
returns-clause-field c = behind_three c.args.version _ _ _ _ _ _ _ _ _ _ _ _ c.in_ok-nonces.nonces c.in_ok-current.current c.in_ok-counters.counters _ c.in_ok-byte.ensures.field c.next.ensures.value c.next.ensures.others c.in_ok-nonces.ensures c.next-2.ensures.value c.next-2.ensures.others c.in_ok-current.ensures c.next-3.ensures.value c.next-3.ensures.others c.in_ok-counters.ensures
    (behind_group _ (read4 c.args.version) _ _ _ _ _ _ _ c.next-4.ensures.value c.next-4.ensures.others c.in_ok-pending.ensures
    (behind_group _ (read5 c.args.version) _ _ _ _ _ _ _ c.next-5.ensures.value c.next-5.ensures.others c.in_ok-awaited.ensures
    (behind_group _ (read6 c.args.version) _ _ _ _ _ _ _ c.next-6.ensures.value c.next-6.ensures.others c.in_ok-mac_queue.ensures.field
    (behind_group _ (last_bit_at c.args.version) _ _ _ _ _ _ _ c.next-7.ensures.value c.next-7.ensures.others c.in-Some.ensures.field
    (c.in-Some-last.ensures _)))))
