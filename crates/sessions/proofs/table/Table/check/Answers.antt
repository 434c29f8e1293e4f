use Rattle.sessions.specs.Table.{step}
use Rattle.sessions.specs.Decision.{IsStepped}
use Rattle.sessions.proofs.Runs.{AnswersTo-err, AnswersTo-is, AnswersTo-ok}
use Rattle.sessions.proofs.table.Table.check.Goals as goal

pub returns : goal.returns
returns c =
    let wanted = step c.args.self.now c.args.command.now in
    let s = AnswersTo-ok c.args.command.now wanted IsStepped c.in_ok-_stepped._stepped c.in_ok-_stepped.ensures in
    AnswersTo-is c.args.command.now wanted (λ _ _. Unit {0}) s.0 tt s.1 tt

pub returns-in_err-_stepped : goal.returns-in_err-_stepped
returns-in_err-_stepped c =
    AnswersTo-err c.args.command.now (step c.args.self.now c.args.command.now) IsStepped (λ _ _. Unit {0}) c.in_err-_stepped.field-0.0 c.from_residual.result
    c.from_residual.ensures.1 c.in_err-_stepped.ensures
