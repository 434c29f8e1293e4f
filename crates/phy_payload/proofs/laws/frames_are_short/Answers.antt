use Rattle.phy_payload.proofs.Lengths.{has_spelling}
use Rattle.phy_payload.proofs.laws.frames_are_short.Goals as goal

pub returns-clause-least : goal.returns-clause-least
returns-clause-least c = λ bytes frame h. rw h.1 (has_spelling frame h.0).0

pub returns-clause-most : goal.returns-clause-most
returns-clause-most c = λ bytes frame h. rw h.1 (has_spelling frame h.0).1
