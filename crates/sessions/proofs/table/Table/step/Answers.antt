use Rattle.std.proofs.Common.{sym, subst}
use Rattle.devices.specs.declared.command.Command.{Command}
use Rattle.sessions.specs.Decision.{AnswersTo, IsStepped}
use Rattle.sessions.specs.Table.{step}
use Rattle.sessions.proofs.table.Table.step.Goals as goal

pub returns-in-Heard : goal.returns-in-Heard
returns-in-Heard c =
    subst (λ (command : Command). AnswersTo command (step c.args.self.now command) IsStepped c.hear.result) (sym c.in-Heard.is) c.hear.ensures
