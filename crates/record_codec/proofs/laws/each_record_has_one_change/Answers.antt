use Rattle.record_codec.proofs.ChangeLaws.{one_spelling}
use Rattle.record_codec.proofs.laws.each_record_has_one_change.Goals as goal

pub returns : goal.returns
returns c = one_spelling
