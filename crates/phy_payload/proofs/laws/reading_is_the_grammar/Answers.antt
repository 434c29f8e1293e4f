use Rattle.std.proofs.Common.{ap, ◌∙◌}
use Rattle.phy_payload.specs.Reading.{phy_at}
use Rattle.phy_payload.proofs.FrameLaws.{phy_again, phy_takes}
use Rattle.phy_payload.proofs.laws.reading_is_the_grammar.Goals as goal

pub returns-clause-read : goal.returns-clause-read
returns-clause-read c = phy_takes

pub returns-clause-spelled : goal.returns-clause-spelled
returns-clause-spelled c = λ bytes frame h. ap phy_at h.1 ∙ phy_again frame h.0
