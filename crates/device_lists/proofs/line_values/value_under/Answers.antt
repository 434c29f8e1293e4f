use Rattle.csv.specs.Records.{fields_of}
use Rattle.device_lists.specs.Values.{text_in}
use Rattle.device_lists.proofs.HeadColumns.{under_at}
use Rattle.device_lists.proofs.line_values.value_under.Goals as goal

pub returns : goal.returns
returns c =
    let at = c.in_ok-place_of.ensures in
    under_at c.args.column c.args.head.now (fields_of c.args.row.now) c.in_ok-place_of.field-0 (text_in c.get.result) at.0 at.1 c.requires c.get.ensures.value
