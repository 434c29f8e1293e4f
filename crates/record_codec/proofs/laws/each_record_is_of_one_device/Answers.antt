use Rattle.record_codec.proofs.RecordLaws.{spelling_injective}
use Rattle.record_codec.proofs.laws.each_record_is_of_one_device.Goals as goal

pub returns : goal.returns
returns c = spelling_injective
