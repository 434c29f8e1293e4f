use Rattle.std.proofs.Common.{codes, rules}
use Rattle.clap.specs.Words.{found_of, rows_of}
use Rattle.command_words.proofs.Rows.{missed, no_format}
use Rattle.command_words.proofs.asked.Given.format.Goals as goal

pub returns-in_err-net_id : goal.returns-in_err-net_id
returns-in_err-net_id c =
    let found = found_of c.args.self.now.matches.now in
    missed (codes "format") (rows_of found) c.from_residual.result (search rules)
    (no_format (rows_of found) (λ n s fits range h. c.new_store_options.ensures.none c.in_err-net_id.was n s fits range h))
