use Rattle.device_lists.proofs.Given.{no_default, on_err}
use Rattle.device_lists.proofs.values.number_or.Goals as goal

pub returns-in_err-number-clause-value : goal.returns-in_err-number-clause-value
returns-in_err-number-clause-value g c = on_err _ c.from_residual.result _ _ c.from_residual.ensures.1 (no_default c.in_err-number.ensures.value c.args.default)
