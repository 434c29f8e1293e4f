use Rattle.std.proofs.Common.{◌≡◌, ◌<◌, ◌∙◌, ℕ, length, ap, sym, subst, arith}
use Rattle.gate_log.specs.Checkpointing.{IsCheckpoint as IsLogCheckpoint}
use Rattle.gate_log.specs.Layout.{IsHeader}
use Rattle.record_codec.specs.Version.{newest}
use Rattle.store_layout.specs.Entries.{entries, entries_of_table}
use Rattle.store.specs.Checkpointing.{header_behind, next_header}
use Rattle.store.specs.State.{store_state}
use Rattle.store.proofs.Republishing.{republishes}
use Rattle.store.proofs.store.Store.begin_checkpoint.Goals as goal

pub returns-clause-begun : goal.returns-clause-begun
returns-clause-begun g c settled =
    let s = store_state g.D.Disk.state c.args.self.now in
    let records = entries newest (entries_of_table s.table) in
    let is = c.in_ok-phase.ensures in
    let generation = c.generation-2.ensures in
    let early = subst (λ n. n < 9223372036854775807) c.generation.ensures c.if-generation-ge-LAST_GENERATION.false in
    let header = λ (n : ℕ). header_behind s.table s.seq n (length records) in
    record {
      contents = settled.contents;
      header = next_header s (length records);
      records = records;
      republishes = republishes c.a_table_replays.ensures.replay newest settled.contents s.table s.seq s.log.generation settled.says settled.rest.knows.generation
          c.devices-devices.ensures.own c.devices-devices.ensures.few is.1.0 early (subst (λ n. IsHeader (header n)) generation is.1.1.1);
      rest = settled.rest;
      bytes = subst (λ n. IsLogCheckpoint c.in_ok-phase.phase (header n) records) generation is.1.1.0;
    }
