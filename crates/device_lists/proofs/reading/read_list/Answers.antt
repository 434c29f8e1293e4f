use Rattle.std.proofs.Common.{◌≡◌, ◌∷◌, ◌++◌, [], None, inl, inr, rules, subst, sym, append-nil, append_assoc}
use Rattle.csv.specs.Records.{fields_of}
use Rattle.device_lists.specs.Rows.{AreRows, Numbered}
use Rattle.device_lists.specs.Columns.{IsListHead}
use Rattle.device_lists.specs.Lists.{IsHeadFault}
use Rattle.device_lists.proofs.LineByLine.{from_start, none_taken, row_taken, rows_of}
use Rattle.device_lists.proofs.RowByRow.{all_read, only_is, read_last}
use Rattle.device_lists.proofs.reading.read_list.Goals as goal

pub returns-in-Err : goal.returns-in-Err
returns-in-Err c =
    let first : Numbered = record { line = c.in-Some.first.line; values = fields_of c.in-Some.first.values } in
    let start = c.of-rows.ensures in
    let left = rows_of c.next.new.self.line c.next.new.self.rest.now in
    let rows = row_taken c.of-rows.result c.in_ok-first.field-0 c.in-Some.first c.next.new.self c.in-Some.is c.in_ok-first.ensures.row left.0 left.1 in
    let wrong : IsHeadFault (fields_of c.in-Some.first.values) c.in-Err.fault = search rules in
    only_is c.args.usage c.args.text.now c.in-Some.first.line c.in-Err.fault c.only_fault-in-Err.result c.only_fault-in-Err.ensures
    (inr (inl (first, left.0, c.in-Err.fault, from_start c.of-rows.result c.args.text.now (first ∷ left.0) start.0 start.1 rows, wrong, search rules)))

pub loop-reading-init : goal.loop-reading-init
loop-reading-init c =
    let first : Numbered = record { line = c.in-Some.first.line; values = fields_of c.in-Some.first.values } in
    let start = c.of-rows.ensures in
    let is_head : IsListHead (fields_of c.in-Some.first.values) c.in-Ok.head.items = search rules in (
      c.in_ok-first.ensures.counted,
      first,
      is_head,
      [],
      (c.new-reading.ensures.lines, c.new-reading.ensures.changes, c.new-reading.ensures.faults),
      λ more left. from_start c.of-rows.result c.args.text.now (first ∷ more) start.0 start.1
          (row_taken c.of-rows.result c.in_ok-first.field-0 c.in-Some.first c.next.new.self c.in-Some.is c.in_ok-first.ensures.row more left),
    )

pub loop-reading-preserved : goal.loop-reading-preserved
loop-reading-preserved c =
    let row : Numbered = record { line = c.in-Some-2.row.line; values = fields_of c.in-Some-2.row.values } in
    let was = c.loop-reading.invariant in (
      c.in_ok-row.ensures.counted,
      was.1,
      was.2,
      was.3 ++ row ∷ [],
      read_last c.args.usage c.in-Ok.head.items was.3 row c.loop-reading.reading c.numbered_change.result c.note.new.self (search rules) c.in_ok-note.ensures was.4,
      λ more left. subst (λ rows. AreRows c.args.text.now (was.1 ∷ rows)) (sym (append_assoc was.3 (row ∷ []) more))
          (was.5 (row ∷ more) (row_taken c.loop-reading.rows c.in_ok-row.field-0 c.in-Some-2.row c.next-in-loop-reading.new.self c.in-Some-2.is c.in_ok-row.ensures.row more left)),
    )

pub returns : goal.returns
returns c =
    let was = c.loop-reading.invariant in
    let over : c.in_ok-row.field-0 ≡ None = search rules in
    let rows = was.5 [] (none_taken c.loop-reading.rows c.in_ok-row.field-0 c.next-in-loop-reading.new.self over c.in_ok-row.ensures.row) in
    all_read c.args.usage c.args.text.now c.in-Ok.head.items was.1 was.3 c.loop-reading.reading c.end.result
    (subst (λ rows. AreRows c.args.text.now (was.1 ∷ rows)) (append-nil was.3) rows) was.2 was.4 c.end.ensures
