use Rattle.uplinks.proofs.Fits.{fit_is}
use Rattle.uplinks.proofs.laws.a_fit_is_of_its_device.Goals as goal

-- src/laws.rt:10:1
pub returns : goal.returns
returns c = fit_is c.new_counters_grow.ensures
