use Rattle.std.proofs.Common.{rules}
use Rattle.store.proofs.preparing.header_of.Goals as goal

pub returns-clause-in_range : goal.returns-clause-in_range
returns-clause-in_range c = record {
  version = search rules;
  generation = search rules;
  sequence = search rules;
  record_count = search rules;
  records_len = search rules;
}
