use Rattle.std.proofs.Common.{◌≡◌, sym, subst, ◌∙◌}
use Rattle.backend_json.proofs.Equal.{inside, behind, behind_two, no_value, refused}
use Rattle.serde_json.specs.Data.{object}
use Rattle.serde_json.specs.View.{view}
use Rattle.backend_json.specs.Answers.{members_behind, members_before, result_of}
use Rattle.backend_json.proofs.read_ans.refused_of.Goals as goal

pub returns-in_err-text : goal.returns-in_err-text
returns-in_err-text c =
    refused _ c.from_residual-in_err-text.result c.from_residual-in_err-text.ensures
    (λ ans cause is ok h.
    let whole = subst (λ r. view c.args.value.now ≡ object (members_before r (members_behind ans.receiver (result_of r) ans.sender ans.transaction))) ok h in
    let r0 = inside (sym c.in_ok-rest.ensures ∙ whole) in
    c.in_err-text.ensures _ r0)

pub returns-in_err-receiver : goal.returns-in_err-receiver
returns-in_err-receiver c =
    refused _ c.from_residual-in_err-receiver.result c.from_residual-in_err-receiver.ensures
    (λ ans cause is ok h.
    let whole = subst (λ r. view c.args.value.now ≡ object (members_before r (members_behind ans.receiver (result_of r) ans.sender ans.transaction))) ok h in
    let r0 = inside (sym c.in_ok-rest.ensures ∙ whole) in
    let r1 = behind c.in_ok-text.ensures r0 in
    no_value (c.in_err-receiver.ensures.only ans.receiver _ is.receiver r1))

pub returns-in_err-cause : goal.returns-in_err-cause
returns-in_err-cause c =
    refused _ c.from_residual-in_err-cause.result c.from_residual-in_err-cause.ensures
    (λ ans cause is ok h.
    let whole = subst (λ r. view c.args.value.now ≡ object (members_before r (members_behind ans.receiver (result_of r) ans.sender ans.transaction))) ok h in
    let r0 = inside (sym c.in_ok-rest.ensures ∙ whole) in
    let r1 = behind c.in_ok-text.ensures r0 in
    let r2 = behind_two c.in_ok-receiver.ensures.found r1 in
    c.in_err-cause.ensures cause _ r2)
