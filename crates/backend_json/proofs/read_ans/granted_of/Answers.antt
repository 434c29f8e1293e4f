use Rattle.std.proofs.Common.{rules, ◌≡◌, sym, subst, ◌∙◌}
use Rattle.backend_json.proofs.Equal.{inside, behind, no_value, refused}
use Rattle.std.specs.Prelude.{IfOk}
use Rattle.serde_json.specs.Data.{object}
use Rattle.serde_json.specs.View.{view}
use Rattle.backend_json.specs.Answers.{AreKeys, members_behind, members_before, result_of}
use Rattle.backend_json.proofs.read_ans.granted_of.Goals as goal

pub returns-in_err-app_skey : goal.returns-in_err-app_skey
returns-in_err-app_skey c =
    refused _ c.from_residual-in_err-app_skey.result c.from_residual-in_err-app_skey.ensures
    (λ ans accepted is ok h.
    let whole = subst (λ r. view c.args.value.now ≡ object (members_before r (members_behind ans.receiver (result_of r) ans.sender ans.transaction))) ok h in
    let r0 = inside (sym c.in_ok-rest.ensures ∙ whole) in
    let keys = subst (λ r. IfOk r AreKeys) ok is.result in
    no_value (c.in_err-app_skey.ensures.only accepted.app_skey _ keys.app_skey r0))

pub returns-in_err-text : goal.returns-in_err-text
returns-in_err-text c =
    refused _ c.from_residual-in_err-text.result c.from_residual-in_err-text.ensures
    (λ ans accepted is ok h.
    let whole = subst (λ r. view c.args.value.now ≡ object (members_before r (members_behind ans.receiver (result_of r) ans.sender ans.transaction))) ok h in
    let r0 = inside (sym c.in_ok-rest.ensures ∙ whole) in
    let r1 = behind c.in_ok-app_skey.ensures.found.1 r0 in
    c.in_err-text.ensures _ r1)

pub returns-in_err-nwk_skey : goal.returns-in_err-nwk_skey
returns-in_err-nwk_skey c =
    refused _ c.from_residual-in_err-nwk_skey.result c.from_residual-in_err-nwk_skey.ensures
    (λ ans accepted is ok h.
    let whole = subst (λ r. view c.args.value.now ≡ object (members_before r (members_behind ans.receiver (result_of r) ans.sender ans.transaction))) ok h in
    let keys = subst (λ r. IfOk r AreKeys) ok is.result in
    let r0 = inside (sym c.in_ok-rest.ensures ∙ whole) in
    let r1 = behind c.in_ok-app_skey.ensures.found.1 r0 in
    let r2 = behind c.in_ok-text.ensures r1 in
    no_value (c.in_err-nwk_skey.ensures.only accepted.nwk_skey _ keys.nwk_skey r2))

pub returns-in_err-accept : goal.returns-in_err-accept
returns-in_err-accept c =
    refused _ c.from_residual-in_err-accept.result c.from_residual-in_err-accept.ensures
    (λ ans accepted is ok h.
    let whole = subst (λ r. view c.args.value.now ≡ object (members_before r (members_behind ans.receiver (result_of r) ans.sender ans.transaction))) ok h in
    let keys = subst (λ r. IfOk r AreKeys) ok is.result in
    let r0 = inside (sym c.in_ok-rest.ensures ∙ whole) in
    let r1 = behind c.in_ok-app_skey.ensures.found.1 r0 in
    let r2 = behind c.in_ok-text.ensures r1 in
    let r3 = behind c.in_ok-nwk_skey.ensures.found.1 r2 in
    no_value (c.in_err-accept.ensures.only accepted.accept _ keys.accept r3))

pub returns-in_err-receiver : goal.returns-in_err-receiver
returns-in_err-receiver c =
    refused _ c.from_residual-in_err-receiver.result c.from_residual-in_err-receiver.ensures
    (λ ans accepted is ok h.
    let whole = subst (λ r. view c.args.value.now ≡ object (members_before r (members_behind ans.receiver (result_of r) ans.sender ans.transaction))) ok h in
    let keys = subst (λ r. IfOk r AreKeys) ok is.result in
    let r0 = inside (sym c.in_ok-rest.ensures ∙ whole) in
    let r1 = behind c.in_ok-app_skey.ensures.found.1 r0 in
    let r2 = behind c.in_ok-text.ensures r1 in
    let r3 = behind c.in_ok-nwk_skey.ensures.found.1 r2 in
    let r4 = behind c.in_ok-accept.ensures.found.1 r3 in
    no_value (c.in_err-receiver.ensures.only ans.receiver _ is.receiver r4))

pub returns : goal.returns
returns c = (
  record {
    receiver = search rules;
    sender = search rules;
    result = record { app_skey = c.in_ok-app_skey.ensures.found.0; nwk_skey = c.in_ok-nwk_skey.ensures.found.0; accept = c.in_ok-accept.ensures.found.0 };
    transaction = search rules;
  },
  search rules,
)
