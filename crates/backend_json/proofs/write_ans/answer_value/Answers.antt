use Rattle.std.proofs.Common.{refl}
use Rattle.backend_json.proofs.write_ans.answer_value.Goals as goal

pub returns-in-Err : goal.returns-in-Err
returns-in-Err c =
    let outcome = c.outcome-outcome-in-Err.ensures in
    let told = rw (c.code.ensures, c.description.ensures) at outcome in
    let h = c.closed-in-Err.ensures _ _ (c.text-opening.ensures _ _ c.new.ensures refl) told in
    rw c.in-Err.is (c.whole-in-Err.ensures _ h)
