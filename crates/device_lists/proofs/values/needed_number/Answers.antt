use Rattle.device_lists.proofs.Given.{not_of_number}
use Rattle.device_lists.proofs.values.needed_number.Goals as goal

pub returns-in-Err-clause-value : goal.returns-in-Err-clause-value
returns-in-Err-clause-value g c n given = c.in-Err.ensures.value (record { 0 = n }) given

pub returns-in-Err-clause-why : goal.returns-in-Err-clause-why
returns-in-Err-clause-why g c = not_of_number c.in-Err.ensures.why (λ given. (record { 0 = given.0 }, given.1))
