use Rattle.std.proofs.Common.{◌∙◌, codes, refl, rules, sym}
use Rattle.std.proofs.lemmas.Option.{none-some}
use Rattle.clap.specs.Words.{found_of, rows_of}
use Rattle.command_words.proofs.Rows.{missed, no_serve, text_met, text_missed}
use Rattle.command_words.proofs.asked.Given.serve.Goals as goal

pub returns-in_err-get_str : goal.returns-in_err-get_str
returns-in_err-get_str c =
    let found = found_of c.args.self.now.matches.now in
    missed (codes "serve") (rows_of found) c.from_residual.result (search rules)
    (no_serve (rows_of found) (λ t s _ _ h. none-some t (sym (text_missed found (codes "listen") (search rules)) ∙ h.0)))

pub returns-in_err-number_given : goal.returns-in_err-number_given
returns-in_err-number_given c =
    let found = found_of c.args.self.now.matches.now in
    missed (codes "serve") (rows_of found) c.from_residual-in_err-number_given.result (search rules)
    (no_serve (rows_of found) (λ t s least most h. c.number_given.ensures.none c.in_err-number_given.was s least most h.1))

pub returns : goal.returns
returns c =
    let found = found_of c.args.self.now.matches.now in
    let listen = text_met found (codes "listen") c.in_ok-get_str.field-0.now c.in_ok-get_str.ensures in
    (refl, c.args.self.now.is_found, (listen, c.in_ok-number_given.ensures.some))
