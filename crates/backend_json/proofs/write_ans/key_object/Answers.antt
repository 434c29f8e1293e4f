use Rattle.std.proofs.Common.{refl}
use Rattle.lw_types.specs.Hex.{key_text}
use Rattle.backend_json.proofs.write_ans.key_object.Goals as goal

pub returns : goal.returns
unfolding key_text
returns c = c.text.ensures _ _ c.new.ensures refl
