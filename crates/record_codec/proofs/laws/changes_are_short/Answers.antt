use Rattle.record_codec.proofs.ChangeLengths.{least_change, most_change, most_change_v1}
use Rattle.record_codec.proofs.laws.changes_are_short.Goals as goal

pub returns-clause-least : goal.returns-clause-least
returns-clause-least c = least_change

pub returns-clause-most : goal.returns-clause-most
returns-clause-most c = most_change

pub returns-clause-most_of_v1 : goal.returns-clause-most_of_v1
returns-clause-most_of_v1 c = most_change_v1
