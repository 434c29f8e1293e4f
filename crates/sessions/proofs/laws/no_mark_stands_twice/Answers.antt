use Rattle.sessions.proofs.Once.{empty_used_up, once_from_empty, once_in_a_part, once_in_commands, used_up_by_a_part, used_up_by_commands}
use Rattle.sessions.proofs.laws.no_mark_stands_twice.Goals as goal

pub returns-clause-commands : goal.returns-clause-commands
returns-clause-commands c = once_in_commands c.a_fit_is_of_its_device.ensures

pub returns-clause-from_empty : goal.returns-clause-from_empty
returns-clause-from_empty c = once_from_empty c.a_fit_is_of_its_device.ensures

pub returns-clause-at_first : goal.returns-clause-at_first
returns-clause-at_first c = empty_used_up

pub returns-clause-after : goal.returns-clause-after
returns-clause-after c = used_up_by_commands c.a_fit_is_of_its_device.ensures

pub returns-clause-what_left : goal.returns-clause-what_left
returns-clause-what_left c = used_up_by_a_part

pub returns-clause-part : goal.returns-clause-part
returns-clause-part c = once_in_a_part
