use Rattle.std.proofs.Common.{refl}
use Rattle.backend_json.proofs.write_ans.closed.Goals as goal

pub returns : goal.returns
returns c members inside h result =
    let h1 = c.text.ensures members _ h refl in
    let h2 = c.text-2.ensures _ _ h1 refl in
    let h3 = c.object.ensures _ inside h2 result in
    let h4 = c.text-3.ensures _ _ h3 refl in
    c.number.ensures _ _ h4 c.from.ensures
