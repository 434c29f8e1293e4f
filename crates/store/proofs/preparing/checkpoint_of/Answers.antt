use Rattle.std.proofs.Common.{◌≡◌, ◌-◌, ◌∙◌, ℕ, List, length, length-drop, drop, sym, ap, subst, arith}
use Rattle.gate_log.specs.declared.layout.Header.{Header}
use Rattle.gate_log.specs.Checkpointing.{IsCheckpoint as IsLogCheckpoint}
use Rattle.gate_log.specs.Layout.{IsHeader}
use Rattle.record_codec.specs.Version.{newest}
use Rattle.store_layout.specs.Entries.{entries, entries_of_table}
use Rattle.store.specs.Checkpointing.{header_behind}
use Rattle.store.proofs.preparing.checkpoint_of.Goals as goal

pub returns : goal.returns
returns c =
    let t = c.args.table.now in
    let bytes = c.in_ok-records.records.items in
    let records = entries newest (entries_of_table t) in
    let is = c.in_ok-records.ensures.1.0 in
    let begun = c.in_ok-checkpoint.checkpoint in
    let made = c.in_ok-checkpoint.ensures in
    let len : c.len.result - 29 ≡ length records =
    ap (λ (n : ℕ). n - 29) (c.len.ensures ∙ c.in_ok-records.records.ok.0) ∙ (sym (length-drop 29 bytes) ∙ ap (λ (l : List ℕ). length l) is) in
    let header : c.header_of-header.result ≡ header_behind t c.args.seq c.args.generation (length records) =
    c.header_of-header.ensures.header ∙ ap (header_behind t c.args.seq c.args.generation) len in (
      let size = made.size in let fits = c.in_ok-records.ensures.1.1.1 in omega (arith, size, fits),
      (
        c.in_ok-records.ensures.1.1.0,
        (
          subst (λ (l : List ℕ). IsLogCheckpoint begun (header_behind t c.args.seq c.args.generation (length records)) l) is
              (subst (λ (h : Header). IsLogCheckpoint begun h (drop 29 bytes)) header made.checkpoint),
          subst IsHeader header c.header_of-header.ensures.in_range,
        ),
      ),
    )
