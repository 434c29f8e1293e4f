use Rattle.std.proofs.Common.{◌≡◌, ◌<◌, ◌∙◌, ℕ, length, arith}
use Rattle.gate_log.specs.Areas.{LogContents, contents_with_checkpoint}
use Rattle.record_codec.specs.Version.{newest}
use Rattle.store_layout.specs.Entries.{entries, entries_of_table}
use Rattle.store.specs.Checkpointing.{header_behind}
use Rattle.store.proofs.Republishing.{either_table, replaces}
use Rattle.store.proofs.migrating.publish.Goals as goal

pub returns-in-Ok-clause-settled : goal.returns-in-Ok-clause-settled
returns-in-Ok-clause-settled g c honest version contents was rest says net_id slots =
    let t = c.args.table.now in
    let generation = c.generation.result in
    let records = entries newest (entries_of_table t) in
    let header = header_behind t c.args.seq generation (length records) in
    let is = c.in_ok-checkpoint.ensures in
    let early : generation < 9223372036854775807 = (let at = c.generation.ensures in let early = c.requires.early in omega (arith, at, early)) in
    let r =
    replaces c.a_table_replays.ensures.replay version contents was t c.args.seq generation says net_id slots (c.generation.ensures ∙ rest.knows.generation)
    c.devices-devices.ensures.own c.devices-devices.ensures.few is.1.0 early is.1.1.1 in
    record {
      contents = contents_with_checkpoint contents header records;
      rest = c.in-Ok.ensures.done honest contents header records rest is.1.1.0 r.follows;
      says = r.after;
    }

pub returns-in-Ok-clause-images : goal.returns-in-Ok-clause-images
returns-in-Ok-clause-images g c honest version contents was rest says net_id slots image permitted =
    let t = c.args.table.now in
    let generation = c.generation.result in
    let records = entries newest (entries_of_table t) in
    let header = header_behind t c.args.seq generation (length records) in
    let is = c.in_ok-checkpoint.ensures in
    let early : generation < 9223372036854775807 = (let at = c.generation.ensures in let early = c.requires.early in omega (arith, at, early)) in
    let r =
    replaces c.a_table_replays.ensures.replay version contents was t c.args.seq generation says net_id slots (c.generation.ensures ∙ rest.knows.generation)
    c.devices-devices.ensures.own c.devices-devices.ensures.few is.1.0 early is.1.1.1 in
    either_table says r image (c.in-Ok.ensures.images honest contents header records rest is.1.1.0 r.follows image permitted)

pub returns-in-Err-clause-images : goal.returns-in-Err-clause-images
returns-in-Err-clause-images g c honest version contents was rest says net_id slots image permitted =
    let t = c.args.table.now in
    let generation = c.generation.result in
    let records = entries newest (entries_of_table t) in
    let header = header_behind t c.args.seq generation (length records) in
    let is = c.in_ok-checkpoint.ensures in
    let early : generation < 9223372036854775807 = (let at = c.generation.ensures in let early = c.requires.early in omega (arith, at, early)) in
    let r =
    replaces c.a_table_replays.ensures.replay version contents was t c.args.seq generation says net_id slots (c.generation.ensures ∙ rest.knows.generation)
    c.devices-devices.ensures.own c.devices-devices.ensures.few is.1.0 early is.1.1.1 in
    either_table says r image (c.in-Err.ensures.images honest contents header records rest is.1.1.0 r.follows image permitted)
