use Rattle.phy_payload.proofs.Lengths.{request_split, data_split}
use Rattle.phy_payload.proofs.laws.a_mic_stands_behind_its_input.Goals as goal

pub returns-clause-requests : goal.returns-clause-requests
returns-clause-requests c = request_split

pub returns-clause-data_frames : goal.returns-clause-data_frames
returns-clause-data_frames c = data_split
