use Rattle.disk.proofs.Torn.{torn_image}
use Rattle.disk.proofs.laws.a_write_tears_an_image.Goals as goal

pub returns : goal.returns
returns c = torn_image
