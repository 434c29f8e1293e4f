use Rattle.session_core.proofs.HandingIn.{asked-whole, heard-whole, starved-whole, ticked-whole}
use Rattle.session_core.proofs.laws.turns_hand_in_commands.Goals as goal

pub returns-clause-asked : goal.returns-clause-asked
returns-clause-asked c = asked-whole c.joining.ensures.continues

pub returns-clause-ticked : goal.returns-clause-ticked
returns-clause-ticked c = ticked-whole c.joining.ensures.continues

pub returns-clause-heard : goal.returns-clause-heard
returns-clause-heard c = heard-whole c.joining.ensures.continues

pub returns-clause-starved : goal.returns-clause-starved
returns-clause-starved c = starved-whole c.joining.ensures.continues
