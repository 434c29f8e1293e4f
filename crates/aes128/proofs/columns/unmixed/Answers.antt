use Rattle.std.proofs.Common.{refl}
use Rattle.aes128.proofs.columns.unmixed.Goals as goal

pub returns : goal.returns
returns c = rw (c.multiples.ensures, c.multiples-2.ensures, c.multiples-3.ensures, c.multiples-4.ensures) refl
