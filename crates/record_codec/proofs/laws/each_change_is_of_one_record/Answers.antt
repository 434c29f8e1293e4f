use Rattle.record_codec.proofs.ChangeLaws.{one_record}
use Rattle.record_codec.proofs.laws.each_change_is_of_one_record.Goals as goal

pub returns : goal.returns
returns c = one_record
