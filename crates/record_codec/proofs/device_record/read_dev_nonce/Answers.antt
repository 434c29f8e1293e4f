use Rattle.std.proofs.Common.{rules}
use Rattle.record_codec.specs.Reading.{flagged_at}
use Rattle.record_codec.proofs.device_record.read_dev_nonce.Goals as goal

pub returns-in-true-default : goal.returns-in-true-default
unfolding flagged_at
returns-in-true-default c = search rules
