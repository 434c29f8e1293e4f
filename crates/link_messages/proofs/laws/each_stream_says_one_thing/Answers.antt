use Rattle.link_messages.proofs.OneSaying.{said_one, says}
use Rattle.link_messages.proofs.laws.each_stream_says_one_thing.Goals as goal

pub returns-clause-some : goal.returns-clause-some
returns-clause-some c = says

pub returns-clause-one : goal.returns-clause-one
returns-clause-one c = said_one
