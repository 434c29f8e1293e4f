use Rattle.flusher.proofs.Living.{begins, begins_on, closes, no_fault, opens, opens_from, refuses}
use Rattle.flusher.proofs.laws.lives_go_on.Goals as goal

pub returns-clause-begun : goal.returns-clause-begun
returns-clause-begun c s settled = begins c.a_settled_store_is_on_its_disk.ensures s settled

pub returns-clause-opened : goal.returns-clause-opened
returns-clause-opened c lives t number s opened left led permitted is =
    opens lives t number s led c.a_settled_store_is_on_its_disk.ensures c.composing.ensures.table opened left permitted is

pub returns-clause-begun_on : goal.returns-clause-begun_on
returns-clause-begun_on c t number disk images = begins_on t number disk images

pub returns-clause-closed : goal.returns-clause-closed
returns-clause-closed c lives t number s led = closes c.composing.ensures.table lives t number s led

pub returns-clause-opened_from : goal.returns-clause-opened_from
returns-clause-opened_from c lives t number disk opened left are permitted is =
    opens_from c.a_settled_store_is_on_its_disk.ensures lives t number disk opened left are permitted is

pub returns-clause-refused : goal.returns-clause-refused
returns-clause-refused c lives t number disk back are on = refuses lives t number disk back are on

pub returns-clause-no_fault : goal.returns-clause-no_fault
returns-clause-no_fault c lives t number disk left e are permitted = no_fault lives t number disk left e are permitted
