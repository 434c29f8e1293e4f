use Rattle.std.proofs.Common.{◌≡◌, ℕ, List, codes, sym, ap, ◌∙◌}
use Rattle.serde_json.specs.Data.{member, no_members, string}
use Rattle.backend_json.specs.declared.join_ans.Cause.{Cause}
use Rattle.backend_json.proofs.Equal.{inside, behind, at_front, no_value, refused, same_text, same_value}
use Rattle.backend_json.specs.Answers.{code_of, description_of}
use Rattle.backend_json.proofs.read_ans.cause_of.Goals as goal

pub returns-in_err-any_text : goal.returns-in_err-any_text
returns-in_err-any_text c =
    refused _ c.from_residual-in_err-any_text.result c.from_residual-in_err-any_text.ensures
    (λ cause others h. c.in_err-any_text.ensures (description_of cause) _ (inside (at_front c.in_ok-inner.ensures h)))

pub returns-in_err-cause : goal.returns-in_err-cause
returns-in_err-cause c =
    refused _ c.from_residual-in_err-cause.result c.from_residual-in_err-cause.ensures
    (λ cause others h.
    let r0 = inside (at_front c.in_ok-inner.ensures h) in
    no_value (c.in_err-cause.ensures.only cause (same_text (at_front c.in_ok-any_text.ensures r0))))

pub returns-in_err-text : goal.returns-in_err-text
returns-in_err-text c =
    refused _ c.from_residual-in_err-text.result c.from_residual-in_err-text.ensures
    (λ cause others h.
    let r0 = inside (at_front c.in_ok-inner.ensures h) in
    let r1 = behind c.in_ok-any_text.ensures r0 in
    let same = c.in_ok-cause.ensures.only cause (same_text (at_front c.in_ok-any_text.ensures r0)) in
    let code : c.code.result.now ≡ code_of cause = c.code.ensures ∙ ap (λ (x : Cause). code_of x) (same_value same) in
    c.in_err-text.ensures no_members (r1 ∙ ap (λ (text : List ℕ). member (codes "ResultCode") (string text) no_members) (sym code)))
