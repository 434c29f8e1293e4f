use Rattle.std.proofs.Common.{◌∙◌, codes, refl, rules, sym}
use Rattle.std.proofs.lemmas.Option.{none-some}
use Rattle.clap.specs.Words.{found_of, rows_of}
use Rattle.command_words.proofs.Rows.{missed, no_amend, text_met, text_missed}
use Rattle.command_words.proofs.asked.Given.amend.Goals as goal

pub returns-in_err-csv : goal.returns-in_err-csv
returns-in_err-csv c =
    let found = found_of c.args.self.now.matches.now in
    missed (codes "amend") (rows_of found) c.from_residual.result (search rules)
    (no_amend (rows_of found) (λ t h. none-some t (sym (text_missed found (codes "csv") (search rules)) ∙ h)))

pub returns : goal.returns
returns c =
    let found = found_of c.args.self.now.matches.now in
    (refl, c.args.self.now.is_found, (text_met found (codes "csv") c.in_ok-csv.csv.now c.in_ok-csv.ensures, c.is_given-dry_run.ensures))
