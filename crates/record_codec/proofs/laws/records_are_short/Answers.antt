use Rattle.record_codec.proofs.Lengths.{has_spelling, has_spelling_v1, has_spelling_v2}
use Rattle.record_codec.proofs.laws.records_are_short.Goals as goal

pub returns-clause-least : goal.returns-clause-least
returns-clause-least c = λ version device h. (has_spelling version device h).0

pub returns-clause-most : goal.returns-clause-most
returns-clause-most c = λ version device h. (has_spelling version device h).1

pub returns-clause-most_of_v1 : goal.returns-clause-most_of_v1
returns-clause-most_of_v1 c = λ device h. (has_spelling_v1 device h).1

pub returns-clause-least_of_v2 : goal.returns-clause-least_of_v2
returns-clause-least_of_v2 c = λ device h. (has_spelling_v2 device h).0
