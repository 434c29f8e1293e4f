use Rattle.std.proofs.Common.{◌∙◌, ℕ, List, length, drop, ap, length-append, arith}
use Rattle.std.proofs.lemmas.List.{drop_at}
use Rattle.record_codec.specs.Version.{newest}
use Rattle.store_layout.specs.Entries.{entries, entries_of_table}
use Rattle.store.proofs.preparing.records_of.Goals as goal

pub returns : goal.returns
returns c =
    let t = c.args.table.now in
    let front = c.in_ok-bytes.bytes.items in
    let records = entries newest (entries_of_table t) in
    let spelled = c.in_ok-put_table.ensures.0 in
    let long = ap (λ (l : List ℕ). length l) spelled ∙ length-append front records in
    let short = c.entries_are_short.ensures newest (entries_of_table t) c.in_ok-put_table.ensures.1 in
    let number = c.a_table_replays.ensures.number t in (
      omega (arith, long, c.in_ok-bytes.ensures.len),
      (
        ap (drop 29) spelled ∙ drop_at front records 29 c.in_ok-bytes.ensures.len,
        (c.in_ok-put_table.ensures.1, omega (arith, long, short, number, c.in_ok-bytes.ensures.len, c.devices.ensures.few)),
      ),
    )
