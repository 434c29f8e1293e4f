use Rattle.std.proofs.Common.{◌∙◌, codes, refl, rules, sym}
use Rattle.std.proofs.lemmas.Option.{none-some}
use Rattle.clap.specs.Words.{found_of, rows_of}
use Rattle.command_words.proofs.Rows.{missed, no_copy, text_met, text_missed}
use Rattle.command_words.proofs.asked.Given.copy.Goals as goal

pub returns-in_err-new : goal.returns-in_err-new
returns-in_err-new c =
    let found = found_of c.args.self.now.matches.now in
    missed (codes "copy") (rows_of found) c.from_residual.result (search rules)
    (no_copy (rows_of found) (λ t h. none-some t (sym (text_missed found (codes "new") (search rules)) ∙ h)))

pub returns : goal.returns
returns c =
    let found = found_of c.args.self.now.matches.now in
    (refl, c.args.self.now.is_found, text_met found (codes "new") c.in_ok-new.new.now c.in_ok-new.ensures)
