use Rattle.std.proofs.Common.{rules, length, sym, subst, refl}
use Rattle.record_codec.specs.Version.{newest}
use Rattle.gate_log.specs.Log.{IsAtRest, log_state}
use Rattle.store_layout.specs.Entries.{entries, entries_of_table}
use Rattle.store.specs.Checkpointing.{header_behind}
use Rattle.store.specs.Establishing.{IsFirstImage, first_contents}
use Rattle.store.specs.State.{IsSettled}
use Rattle.store.proofs.Shut.{as_it_was, first_of, new_store}
use Rattle.store.proofs.establishing.establish_back.Goals as goal

pub returns-then-len-disk_len : goal.returns-then-len-disk_len
returns-then-len-disk_len g c =
    record {
      made = search rules;
      healthy = search rules;
      settled = search rules;
      size = search rules;
      device = search rules;
      images = λ honest. as_it_was c.settled_disk_keeps_its_content.ensures c.args.table c.args.seq (g.D.Disk.state c.args.disk);
      unarmed = search rules;
    }

pub returns-in-Err : goal.returns-in-Err
returns-in-Err g c =
    record {
      made = search rules;
      healthy = search rules;
      settled = search rules;
      size = search rules;
      device = search rules;
      images = λ honest. as_it_was c.settled_disk_keeps_its_content.ensures c.args.table c.args.seq (g.D.Disk.state c.args.disk);
      unarmed = search rules;
    }

pub returns-in-Err-write_log : goal.returns-in-Err-write_log
returns-in-Err-write_log g c =
    let t = c.args.table in
    let seq = c.args.seq in
    let records = entries newest (entries_of_table t) in
    let header = header_behind t seq 1 (length records) in
    let is = c.in-Ok.ensures in
    let e = c.in-Err-write_log.ensures in
    let first =
    first_of c.a_table_replays.ensures.replay t seq c.net_id.result c.slots.result c.net_id.ensures c.slots.ensures e.in_range.0 e.in_range.1
    c.devices-devices.ensures.own c.devices-devices.ensures.few is.1.0 in
    record {
      made = search rules;
      healthy = search rules;
      settled = search rules;
      size = search rules;
      device = search rules;
      images = λ honest nothing image permitted.
          let old = (g.D.Disk.state c.args.disk).content in
          new_store t seq (first_contents t.net_id t.slots header records) old image first.1
          (subst (λ x. IsFirstImage x old image) first.0
          (e.images honest nothing header records is.1.1.0 (record { in_range = is.1.1.1; generation = refl; len = refl }) image permitted));
      unarmed = search rules;
    }

pub returns-in-Ok-write_log : goal.returns-in-Ok-write_log
returns-in-Ok-write_log g c =
    let t = c.args.table in
    let seq = c.args.seq in
    let records = entries newest (entries_of_table t) in
    let header = header_behind t seq 1 (length records) in
    let is = c.in-Ok.ensures in
    let e = c.in-Ok-write_log.ensures in
    let first =
    first_of c.a_table_replays.ensures.replay t seq c.net_id.result c.slots.result c.net_id.ensures c.slots.ensures e.in_range.0 e.in_range.1
    c.devices-devices.ensures.own c.devices-devices.ensures.few is.1.0 in
    record {
      made = search rules;
      healthy = search rules;
      settled = λ honest.
          subst IsSettled (sym c.new.ensures.store)
          (record {
            contents = first_contents t.net_id t.slots header records;
            rest = subst (IsAtRest (log_state g.D.Disk.state c.in-Ok-write_log.log)) first.0
                (e.done honest header records is.1.1.0 (record { in_range = is.1.1.1; generation = refl; len = refl }));
            says = first.1;
          });
      size = search rules;
      device = search rules;
      images = λ honest nothing. tt;
      unarmed = search rules;
    }
