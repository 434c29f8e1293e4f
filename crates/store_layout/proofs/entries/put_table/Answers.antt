use Rattle.std.proofs.Common.{◌≡◌, ◌+◌, ◌++◌, ℕ, suc, drop, ap, arith, subst}
use Rattle.record_codec.specs.Version.{newest}
use Rattle.store_layout.specs.Entries.{AreEntries, entries, entries_from}
use Rattle.store_layout.proofs.Tables.{each_more, put_more}
use Rattle.store_layout.proofs.entries.put_table.Goals as goal

pub loop-device-preserved : goal.loop-device-preserved
loop-device-preserved c =
    let l = c.loop-device in
    let v = newest in
    let devices = c.devices-device-items.result.now in
    let device = c.device-item.result in
    let left = drop (l.device-index + 1) devices in
    let one = c.in_ok-put_entry.ensures in
    let next : suc l.slot ≡ l.slot + 1 = omega arith in
    record {
      slot = ap (λ n. n + 1) l.invariant.slot;
      written = subst (λ (n : ℕ). c.put_entry.new.out.items ++ entries v (entries_from n left) ≡ c.args.out.now.items ++ entries v (entries_from 0 devices)) next
          (put_more v l.slot l.device-index _ l.out.items c.put_entry.new.out.items devices device c.loop-device-test.true c.device-item.is l.invariant.written one.0);
      each = subst (λ (n : ℕ). AreEntries v (entries_from n left) → AreEntries v (entries_from 0 devices)) next
          (each_more v l.slot l.device-index devices device c.loop-device-test.true c.device-item.is one.1 l.invariant.each);
    }
