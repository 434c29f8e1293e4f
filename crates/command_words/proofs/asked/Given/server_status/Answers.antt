use Rattle.std.proofs.Common.{arith, codes, rules}
use Rattle.clap.specs.Words.{found_of, rows_of}
use Rattle.command_words.proofs.Rows.{missed, no_status}
use Rattle.command_words.proofs.asked.Given.server_status.Goals as goal

pub returns-in_err-wait : goal.returns-in_err-wait
returns-in_err-wait c =
    let found = found_of c.args.self.now.matches.now in
    missed (codes "status") (rows_of found) c.from_residual.result (search rules)
    (no_status (rows_of found) (λ s most spelled. c.number_given.ensures.none c.in_err-wait.was s (omega arith) most spelled))
