use Rattle.std.proofs.Common.{refl}
use Rattle.backend_json.proofs.write_ans.outcome.Goals as goal

pub returns : goal.returns
returns c =
    let h1 = c.text.ensures _ _ c.new.ensures refl in
    c.text-2.ensures _ _ h1 refl
