use Rattle.session_core.proofs.Standing.{stand-asked, stand-heard, stand-missed, stand-ticked}
use Rattle.session_core.proofs.laws.windows_stand_for_groups.Goals as goal

pub returns-clause-asked : goal.returns-clause-asked
returns-clause-asked c command old new moment closed turn arrivals h s =
    stand-asked c.windows_close_in_order.ensures c.windows_stand_later_too.ensures arrivals command old new moment closed turn h s

pub returns-clause-ticked : goal.returns-clause-ticked
returns-clause-ticked c old new moment closed turn arrivals h s =
    stand-ticked c.windows_close_in_order.ensures c.windows_stand_later_too.ensures arrivals old new moment closed turn h s

pub returns-clause-heard : goal.returns-clause-heard
returns-clause-heard c copy old new moment closed turn arrivals h lawful s =
    stand-heard c.windows_close_in_order.ensures c.windows_stand_later_too.ensures arrivals c.a_copy_goes_into_its_group.ensures copy old new moment closed turn h
    lawful.opened s

pub returns-clause-missed : goal.returns-clause-missed
returns-clause-missed c copy old new moment closed turn arrivals h s =
    stand-missed c.windows_close_in_order.ensures c.windows_stand_later_too.ensures arrivals copy old new moment closed turn h s
