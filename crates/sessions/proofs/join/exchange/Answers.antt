use Rattle.std.proofs.Common.{◌∙◌, List, ℕ, sym, ap, subst}
use Rattle.backend_json.specs.declared.join_ans.JoinAns.{JoinAns}
use Rattle.backend_json.specs.Answers.{IsJoinAns}
use Rattle.backend_json.specs.Messages.{IsJoinReq}
use Rattle.sessions.proofs.JoinTexts.{reply_to_text}
use Rattle.sessions.proofs.join.exchange.Goals as goal

pub returns : goal.returns
returns c =
    let ask = c.args.ask.now in
    let ans = c.in_ok-read_join_ans.field-0 in
    let a = c.in_ok-answer.ensures in
    let read = c.in_ok-read_join_ans.ensures.found in
    let asked = subst (λ (text : List ℕ). IsJoinReq text ask) (sym c.deref.ensures) c.in_ok-question.ensures.1 in
    let told = subst (λ (text : List ℕ). IsJoinAns text a.0) (sym c.deref-2.ensures) a.4 in
    let same = c.each_text_is_of_one_message.ensures.answers _ a.0 ans a.1 read.0 told read.1 in
    ap (λ (x : JoinAns). (x, c.in_ok-answer.after)) (sym same)
    ∙ reply_to_text c.each_text_is_of_one_message.ensures.questions c.args.state.now ask _ (a.0, c.in_ok-answer.after) c.ask_in_range.ensures asked a.2
