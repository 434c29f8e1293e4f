use Rattle.mac_commands.proofs.CommandsIn.{fits}
use Rattle.mac_commands.proofs.laws.what_fits_is_the_longest.Goals as goal

pub returns : goal.returns
returns c = fits
