use Rattle.std.proofs.Common.{◌≡◌, ◌<◌, arith, rules, Some, None, length}
use Rattle.csv.specs.Records.{fields_of}
use Rattle.device_lists.specs.Rows.{values_in}
use Rattle.device_lists.proofs.LineByLine.{a_row, no_row, shorter}
use Rattle.device_lists.proofs.rows.Rows.next.Goals as goal

pub returns-in-Some-clause-row : goal.returns-in-Some-clause-row
returns-in-Some-clause-row c more left =
    let before = c.loop-alloc.self in
    let some : 0 < length before.rest.now = search rules in
    let is : values_in c.split_line.result.0.now ≡ Some (fields_of c.in-Some.values) = search rules in
    c.loop-alloc.invariant.2 _
    (a_row before.line before.rest.now c.split_line.result.0.now c.split_line.result.1.now (fields_of c.in-Some.values) more some
    c.split_line.ensures.0 c.split_line.ensures.1 is left)

pub loop-alloc-preserved : goal.loop-alloc-preserved
loop-alloc-preserved c =
    let before = c.loop-alloc.self in
    let some : 0 < length before.rest.now = search rules in
    let none : values_in c.split_line.result.0.now ≡ None = search rules in
    let less = shorter before.rest.now c.split_line.result.0.now c.split_line.result.1.now some c.split_line.ensures.1 in
    let was = c.loop-alloc.invariant in (
      omega (arith, less, was.0),
      omega (arith, less, was.1),
      λ more left. was.2 more (no_row before.line before.rest.now c.split_line.result.0.now c.split_line.result.1.now more some
          c.split_line.ensures.0 c.split_line.ensures.1 none left),
    )
