use Rattle.std.proofs.Common.{◌≡◌, ◌∙◌, Err, sym, ap, subst, inr}
use Rattle.std.specs.Option.{is_some}
use Rattle.std.specs.Result.{MatchResult}
use Rattle.std.proofs.lemmas.Option.{same_Some}
use Rattle.join_server.specs.declared.state.JoinState.{JoinState}
use Rattle.sessions.proofs.JoinTexts.{granted_is, refused_is, same_grant}
use Rattle.sessions.proofs.join.ask_join_server.Goals as goal

pub unwrap-after-requires : goal.unwrap-after-requires
unwrap-after-requires c =
    ap is_some (granted_is c.args.state.now c.args.ask.now c.in_ok-ans.ans c.in_ok-ans.after c.requires c.in_ok-ans.ensures c.in-Ok.accepted c.in-Ok.is).3

pub unwrap-requires : goal.unwrap-requires
unwrap-requires c =
    let g = granted_is c.args.state.now c.args.ask.now c.in_ok-ans.ans c.in_ok-ans.after c.requires c.in_ok-ans.ensures c.in-Ok.accepted c.in-Ok.is in
    let state = same_Some c.unwrap-after.result g.0.0 (sym c.unwrap-after.ensures ∙ g.3) in
    ap is_some (ap (λ (s : JoinState). s.join_nonce) state ∙ g.4)

pub returns-in-Ok : goal.returns-in-Ok
returns-in-Ok c =
    let g = granted_is c.args.state.now c.args.ask.now c.in_ok-ans.ans c.in_ok-ans.after c.requires c.in_ok-ans.ensures c.in-Ok.accepted c.in-Ok.is in
    let state = same_Some c.unwrap-after.result g.0.0 (sym c.unwrap-after.ensures ∙ g.3) in
    let nonce = same_Some c.unwrap.result g.0.1.join_nonce (sym c.unwrap.ensures ∙ (ap (λ (s : JoinState). s.join_nonce) state ∙ g.4)) in
    let grant = same_grant c.grant_of.result g.0.1 (c.grant_of.ensures.join_nonce ∙ nonce) (sym c.grant_of.ensures.accepted ∙ g.2) in
    subst (λ r. MatchResult r (λ value. (c.unwrap-after.result, c.grant_of.result) ≡ value) (λ refusal. ⊥)) (sym g.1) (λ i. (state i, grant i))

pub returns-in-Err : goal.returns-in-Err
returns-in-Err c =
    inr
    (refused_is c.args.state.now c.args.ask.now c.in_ok-ans.ans c.in_ok-ans.after c.requires c.in_ok-ans.ensures c.in-Err.cause c.in-Err.is
    ∙ ap Err (sym c.cause_refusal.ensures))
