use Rattle.link_messages.proofs.Pieces.{pieces_said}
use Rattle.link_messages.proofs.StreamLaws.{said_fault_more, said_more}
use Rattle.link_messages.proofs.laws.cuts_make_no_difference.Goals as goal

pub returns-clause-rest : goal.returns-clause-rest
returns-clause-rest c = said_more

pub returns-clause-fault : goal.returns-clause-fault
returns-clause-fault c = λ peer stream piece messages refusal h. said_fault_more peer stream piece messages refusal h

pub returns-clause-pieces : goal.returns-clause-pieces
returns-clause-pieces c = pieces_said
