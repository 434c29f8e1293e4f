use Rattle.std.proofs.Common.{◌∙◌, codes, refl, rules, sym}
use Rattle.std.proofs.lemmas.Option.{none-some}
use Rattle.clap.specs.Words.{found_of, rows_of}
use Rattle.command_words.proofs.Rows.{missed, no_restore, text_asked, text_met, text_missed}
use Rattle.command_words.proofs.asked.Given.restore.Goals as goal

pub returns-in_err-get_str : goal.returns-in_err-get_str
returns-in_err-get_str c =
    let found = found_of c.args.self.now.matches.now in
    missed (codes "restore") (rows_of found) c.from_residual.result (search rules)
    (no_restore (rows_of found) (λ t n _ _ h _. none-some t (sym (text_missed found (codes "new") (search rules)) ∙ h)))

pub returns-in_err-number_given : goal.returns-in_err-number_given
returns-in_err-number_given c =
    let found = found_of c.args.self.now.matches.now in
    missed (codes "restore") (rows_of found) c.from_residual-in_err-number_given.result (search rules)
    (no_restore (rows_of found) (λ t n least most _ spelled. c.number_given.ensures.none c.in_err-number_given.was n least most spelled))

pub returns : goal.returns
returns c =
    let found = found_of c.args.self.now.matches.now in (
      refl,
      c.args.self.now.is_found,
      (
        text_met found (codes "new") c.in_ok-get_str.field-0.now c.in_ok-get_str.ensures,
        c.in_ok-number_given.ensures.some,
        text_asked found (codes "above") _ c.get_str-2.ensures,
      ),
    )
