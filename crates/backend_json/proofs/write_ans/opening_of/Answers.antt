use Rattle.std.proofs.Common.{refl}
use Rattle.backend_json.proofs.write_ans.opening_of.Goals as goal

pub returns : goal.returns
returns c =
    let h0 = c.new.ensures in
    let h1 = c.object.ensures _ _ h0 c.key_object.ensures in
    let h2 = c.text.ensures _ _ h1 refl in
    let h3 = c.object-2.ensures _ _ h2 c.key_object-2.ensures in
    c.text-2.ensures _ _ h3 refl
