use Rattle.std.proofs.Common.{rules}
use Rattle.byte_fields.proofs.field_reader.FieldReader.flag.Goals as goal

pub returns-in-1 : goal.returns-in-1
returns-in-1 c = search rules
