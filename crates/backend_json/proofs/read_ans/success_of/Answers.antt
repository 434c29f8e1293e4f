use Rattle.backend_json.proofs.Equal.{inside, behind, at_front, refused}
use Rattle.backend_json.proofs.read_ans.success_of.Goals as goal

pub returns-in_err-text : goal.returns-in_err-text
returns-in_err-text c =
    refused _ c.from_residual-in_err-text.result c.from_residual-in_err-text.ensures
    (λ others h. c.in_err-text.ensures _ (inside (at_front c.in_ok-inner.ensures h)))

pub returns-in_err-text-2 : goal.returns-in_err-text-2
returns-in_err-text-2 c =
    refused _ c.from_residual-in_err-text-2.result c.from_residual-in_err-text-2.ensures
    (λ others h. c.in_err-text-2.ensures _ (behind c.in_ok-text.ensures (inside (at_front c.in_ok-inner.ensures h))))
