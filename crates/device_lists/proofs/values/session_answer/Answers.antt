use Rattle.device_lists.proofs.Given.{none_of}
use Rattle.device_lists.proofs.values.session_answer.Goals as goal

pub returns-in-Err : goal.returns-in-Err
returns-in-Err c =
    let why = c.in-Err.ensures.why in
    record {
      value = none_of c.in-Err.ensures.value (λ n. record { 0 = n }) (λ n given. given);
      why = (why.0, why.1, λ given. why.2 (record { 0 = given.0 }, given.1));
    }
