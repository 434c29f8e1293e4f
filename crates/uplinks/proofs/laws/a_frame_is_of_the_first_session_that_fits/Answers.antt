use Rattle.uplinks.proofs.Candidates.{fit-among}
use Rattle.uplinks.proofs.laws.a_frame_is_of_the_first_session_that_fits.Goals as goal

pub returns : goal.returns
returns c = fit-among
