use Rattle.phy_payload.proofs.FrameLaws.{one_frame}
use Rattle.phy_payload.proofs.laws.each_spelling_is_of_one_frame.Goals as goal

pub returns : goal.returns
returns c = one_frame
